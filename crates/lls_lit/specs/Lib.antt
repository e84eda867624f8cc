pub mod Literal
pub mod Formula
pub mod Marked
pub mod Stamps
pub mod Indices
