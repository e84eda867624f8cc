pub mod Turns
pub mod Forgetting
pub mod Crew
