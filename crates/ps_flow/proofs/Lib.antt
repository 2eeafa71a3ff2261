pub mod VisitLemmas
pub mod ReachLemmas
pub mod ReachedLemmas
pub mod BindLemmas
pub mod WholeParts
pub mod PlaceLemmas
pub mod GoingLemmas
