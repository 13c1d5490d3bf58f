pub mod Convert
pub mod Promised
pub mod Both
