pub mod Stamps
pub mod Flipped
