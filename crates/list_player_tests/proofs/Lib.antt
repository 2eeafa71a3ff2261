pub mod Drawn
pub mod Lists
