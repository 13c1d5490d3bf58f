-- Laws about the definitions.
pub mod Formed
pub mod Read
pub mod CasesHold
pub mod Terms
