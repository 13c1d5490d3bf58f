-- Laws that belong to no one function.
pub mod Conversing
pub mod Speaking
