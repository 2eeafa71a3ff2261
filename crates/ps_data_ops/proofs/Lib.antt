pub mod InTurn
pub mod Within
pub mod Putting
pub mod Defining
