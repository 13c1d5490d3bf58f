-- Laws that belong to no one function.
pub mod Records
pub mod Playing
pub mod Whole
