pub mod Decoding
pub mod Rows
pub mod Gathering
pub mod Code
