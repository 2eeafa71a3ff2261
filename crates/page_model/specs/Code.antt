pub mod ClipNumber
pub mod Extent
