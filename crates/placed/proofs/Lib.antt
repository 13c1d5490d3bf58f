-- Laws that belong to no one function.
pub mod Formed
pub mod Starts
pub mod InOrder
pub mod Marks
pub mod Parts
pub mod CasesHold
