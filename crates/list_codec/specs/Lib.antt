pub mod Command
pub mod Spelling
pub mod Lists
pub mod Code
