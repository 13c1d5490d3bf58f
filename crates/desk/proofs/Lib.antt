pub mod Names
pub mod Ruling
