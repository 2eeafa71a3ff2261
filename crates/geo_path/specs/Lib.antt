pub mod Curve
pub mod Path
pub mod Arc
pub mod Flat
pub mod Code
