pub mod Numbers
pub mod Arithmetic
pub mod Comparison
pub mod Logic
pub mod Rows
