pub mod WorkedPlane
pub mod ExactPlane
pub mod ListOfAll
