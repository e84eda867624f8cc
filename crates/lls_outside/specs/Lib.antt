pub mod Moment
pub mod Outside
pub mod Grown
pub mod Kept
