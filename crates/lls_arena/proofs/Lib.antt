pub mod Buffer
pub mod Heads
pub mod Paired
pub mod Changed
pub mod Pieces
pub mod Rows
pub mod Told
pub mod Sliding
