pub mod Code
pub mod Sheet
