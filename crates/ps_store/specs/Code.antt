pub mod Hashing
pub mod Marking
pub mod Entering
pub mod Seeking
pub mod Turning
