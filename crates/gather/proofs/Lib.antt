-- Laws that belong to no one function.
pub mod Pieces
pub mod Counts
pub mod Blocks
