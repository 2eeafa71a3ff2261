pub mod Products
pub mod Carrying
pub mod Along
pub mod Running
pub mod Picking
