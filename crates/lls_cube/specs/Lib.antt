pub mod Table
pub mod Cube
pub mod Cover
pub mod Words
