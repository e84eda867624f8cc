pub mod Rule
pub mod Words
