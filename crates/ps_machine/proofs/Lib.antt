mod Catching
mod Filled
pub mod Few
pub mod Going
pub mod Refusing
pub mod Skipping
pub mod Framing
