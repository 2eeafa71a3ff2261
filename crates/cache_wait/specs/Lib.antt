pub mod Claims
pub mod Keys
pub mod Seats
