pub mod Image
pub mod Same
pub mod First
