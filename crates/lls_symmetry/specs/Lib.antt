pub mod Motion
pub mod Symmetry
pub mod Pairs
pub mod Moved
