pub mod Cells
pub mod Stages
