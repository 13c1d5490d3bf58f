-- Laws that belong to no one function.
pub mod Served
pub mod Handing
