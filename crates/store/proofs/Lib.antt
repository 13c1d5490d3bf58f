-- Laws that belong to no one function.
pub mod Changed
pub mod Promised
pub mod Enlisting
