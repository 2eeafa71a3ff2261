pub mod Rounding
pub mod Roots
pub mod Fix
pub mod Decimal
pub mod Whole
pub mod Floor
pub mod Code
