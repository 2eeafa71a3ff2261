pub mod Most
pub mod Unnumbered
