pub mod Queued
pub mod Asking
pub mod Accepting
pub mod Answers
