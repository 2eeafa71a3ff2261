pub mod LengthLemmas
pub mod DashLemmas
pub mod PlaceLemmas
pub mod WithinLemmas
