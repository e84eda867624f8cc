pub mod Digits
pub mod Sets
pub mod Apart
pub mod Logs
