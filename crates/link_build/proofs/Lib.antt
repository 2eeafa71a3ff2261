pub mod Tables
pub mod Colours
pub mod Ways
pub mod Ratios
pub mod Points
