pub mod Pen
pub mod Segment
pub mod Corner
pub mod Outline
pub mod Dash
pub mod Code
