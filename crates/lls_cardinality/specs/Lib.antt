pub mod Counter
pub mod Pushed
