pub mod Lines
pub mod Words
pub mod Seen
pub mod Digits
pub mod WaitingBytes
