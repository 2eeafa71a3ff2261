pub mod Affine
pub mod Places
pub mod Product
pub mod Sine
pub mod Turn
