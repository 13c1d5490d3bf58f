pub mod Say
pub mod Decided
pub mod Ordered
