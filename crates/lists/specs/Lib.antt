pub mod Room
pub mod Line
