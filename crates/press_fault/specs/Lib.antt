pub mod Plane
pub mod Names
pub mod Outcome
pub mod Code
