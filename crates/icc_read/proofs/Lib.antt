pub mod Entries
pub mod Lists
pub mod Shapes
pub mod Sound
pub mod Whole
