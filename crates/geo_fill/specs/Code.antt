pub mod Sweep
pub mod Crossings
pub mod Steps
pub mod WalkSteps
