pub mod Text
pub mod Values
pub mod Choices
pub mod Grammar
pub mod Options
pub mod Sample
pub mod Lines
pub mod Code
