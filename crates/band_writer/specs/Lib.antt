pub mod Bands
pub mod Listing
pub mod Said
pub mod Parts
pub mod Code
