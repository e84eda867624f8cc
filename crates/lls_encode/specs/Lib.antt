pub mod Place
pub mod Formula
pub mod Names
pub mod Room
pub mod History
pub mod Parts
pub mod Images
