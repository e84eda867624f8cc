pub mod Changes
pub mod Chunks
pub mod Evolution
pub mod History
pub mod Place
pub mod Sizes
pub mod Text
