pub mod Values
pub mod Composites
pub mod Dictionaries
pub mod Reading
pub mod Rows
pub mod Calls
