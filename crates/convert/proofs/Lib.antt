-- Laws that belong to no one function.
pub mod To
pub mod Back
pub mod Kept
pub mod BothLayouts
pub mod Loops
