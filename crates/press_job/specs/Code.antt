pub mod Seen
pub mod Painted
pub mod Turn
