pub mod CoreState
pub mod Lookup
pub mod Steps
pub mod Sound
pub mod Replay
pub mod Lru
