pub mod Beside
pub mod PathFaults
mod Strokes
mod Folding
mod TopNumbers
