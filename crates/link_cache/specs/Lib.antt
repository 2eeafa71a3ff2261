pub mod Ticket
pub mod Look
pub mod Counting
pub mod CacheState
pub mod Kept
pub mod Orders
pub mod Serving
pub mod Claims
