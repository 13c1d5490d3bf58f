-- Laws that belong to no one function.
pub mod Moves
pub mod Cases
