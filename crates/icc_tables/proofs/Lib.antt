pub mod Tables
mod Worked
pub mod Corners
pub mod Stored
