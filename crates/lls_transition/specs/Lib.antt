pub mod Place
pub mod Clause
pub mod Transition
