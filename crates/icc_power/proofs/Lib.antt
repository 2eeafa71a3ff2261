pub mod Quotients
pub mod Places
pub mod Raising
pub mod Rising
pub mod Shapes
pub mod Listed
