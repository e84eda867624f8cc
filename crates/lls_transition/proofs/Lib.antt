pub mod Written
pub mod Tabled
pub mod Satisfied
pub mod Excluded
pub mod Pushed
pub mod Obeyed
pub mod Distinct
