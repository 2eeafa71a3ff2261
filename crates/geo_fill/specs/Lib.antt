pub mod Spans
pub mod Walk
pub mod Code
