pub mod Talk
pub mod Parts
