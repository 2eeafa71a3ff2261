pub mod CurveLemmas
mod ChainLemmas
pub mod CountLemmas
pub mod FlatLemmas
pub mod AngleLemmas
pub mod PointLemmas
pub mod EndLemmas
pub mod LengthLemmas
