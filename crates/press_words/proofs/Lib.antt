pub mod Naming
pub mod Walks
