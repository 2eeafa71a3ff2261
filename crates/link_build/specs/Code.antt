pub mod Narrow
pub mod Digests
pub mod Entries
pub mod Prepared
pub mod Way
