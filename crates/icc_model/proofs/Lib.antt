pub mod Choices
pub mod Plain
