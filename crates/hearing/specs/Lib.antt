pub mod Here
pub mod Opened
