-- Laws that belong to no one function.
pub mod Here
pub mod Standing
