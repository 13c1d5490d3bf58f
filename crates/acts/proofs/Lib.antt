pub mod Counts
pub mod Acting
