pub mod Map
pub mod Picks
pub mod Code
