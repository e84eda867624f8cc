pub mod WorkedTrail
