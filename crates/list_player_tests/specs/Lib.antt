pub mod Lists
pub mod Tints
