pub mod Counting
pub mod Pushes
pub mod Levels
pub mod Course
pub mod Binding
pub mod Rows
pub mod BindLaw
pub mod Code
