pub mod Background
pub mod Bits
pub mod Counts
pub mod Numbers
pub mod Tables
