pub mod Luby
pub mod Order
pub mod Changes
pub mod Queue
pub mod HeapOrder
pub mod Heap
pub mod EitherOrder
