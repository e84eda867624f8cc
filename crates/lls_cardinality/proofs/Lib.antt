pub mod Steps
pub mod Bounds
pub mod Truth
pub mod Rows
pub mod Count
pub mod Extended
