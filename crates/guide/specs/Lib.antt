pub mod Scan
pub mod Say
pub mod Again
