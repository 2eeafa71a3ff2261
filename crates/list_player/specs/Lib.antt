pub mod Painting
pub mod Memo
pub mod Playing
pub mod Code
