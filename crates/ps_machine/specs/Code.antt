pub mod Filling
pub mod Landing
