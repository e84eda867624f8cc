pub mod Faults
pub mod Results
pub mod FileMaps
pub mod NamedBytes
pub mod Outputs
pub mod Pieces
pub mod Rest
