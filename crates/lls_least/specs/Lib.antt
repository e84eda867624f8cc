pub mod Bounded
pub mod Extremal
pub mod Finding
