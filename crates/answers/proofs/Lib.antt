pub mod Saying
pub mod Indices
pub mod Replies
pub mod Cuts
