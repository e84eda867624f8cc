pub mod Cells
pub mod Counts
pub mod Solved
pub mod Limits
