pub mod Between
pub mod Classes
pub mod Targets
pub mod Formula
pub mod Decoding
pub mod Cubes
