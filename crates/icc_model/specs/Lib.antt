pub mod Profile
pub mod Direct
