pub mod Made
pub mod Solutions
pub mod Searched
