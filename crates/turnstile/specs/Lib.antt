pub mod TurnRule
pub mod Steps
pub mod Tokens
