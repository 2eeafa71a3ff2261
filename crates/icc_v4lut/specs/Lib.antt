pub mod Code
pub mod StagesTag
