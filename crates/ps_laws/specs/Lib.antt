pub mod Limits
pub mod Reached
pub mod Ending
pub mod Stored
pub mod Frames
