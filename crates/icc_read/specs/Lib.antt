pub mod Table
pub mod Content
pub mod Tags
pub mod Faults
pub mod Read
pub mod Identity
pub mod Code
