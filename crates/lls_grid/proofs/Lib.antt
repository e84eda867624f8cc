pub mod Folded
pub mod InOrder
pub mod Chunks
pub mod Joins
pub mod Whole
pub mod Shaped
pub mod Steps
pub mod Growth
