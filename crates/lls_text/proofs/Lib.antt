pub mod Cuts
pub mod Fronts
pub mod Printed
pub mod NumberBytes
pub mod LineCounts
pub mod CappedDigits
pub mod FirstEnds
mod ShortDigits
