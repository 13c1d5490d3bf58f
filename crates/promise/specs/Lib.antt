pub mod Obeyed
pub mod Faults
pub mod Runs
pub mod Sixteen
pub mod Examples
