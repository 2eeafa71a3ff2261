pub mod Rounded
pub mod Curves
pub mod Stored
pub mod Lattice
pub mod Pcs
