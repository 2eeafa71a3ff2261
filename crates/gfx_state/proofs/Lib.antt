pub mod SavedLemmas
pub mod PointLemmas
pub mod ClipLemmas
