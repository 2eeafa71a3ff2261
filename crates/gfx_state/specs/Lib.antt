pub mod Colour
pub mod Lines
pub mod Stroke
pub mod Points
pub mod CurrentPage
pub mod Keeping
pub mod Graphics
pub mod Code
