pub mod Parameters
pub mod Conditions
pub mod Extent
pub mod Reading
pub mod Rows
pub mod Code
