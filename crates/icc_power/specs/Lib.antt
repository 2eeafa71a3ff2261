pub mod Power
pub mod Parametric
pub mod CurveTag
