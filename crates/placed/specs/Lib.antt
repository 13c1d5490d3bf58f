pub mod State
pub mod Machine
pub mod Consistent
pub mod Marks
pub mod Walked
pub mod Cases
