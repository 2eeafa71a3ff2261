pub mod SineLemmas
pub mod ProductLemmas
