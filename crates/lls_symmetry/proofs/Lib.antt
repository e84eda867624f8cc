pub mod Joined
pub mod Grids
pub mod Laws
pub mod Everywhere
pub mod Symmetric
pub mod Shifted
