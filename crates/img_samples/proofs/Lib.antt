pub mod Packed
pub mod Feeding
pub mod Counting
pub mod Tables
pub mod Copying
pub mod Adding
pub mod Masks
