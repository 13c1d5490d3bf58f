-- Laws that belong to no one function.
pub mod Lying
pub mod Talking
pub mod Collecting
pub mod Hearing
pub mod Reading
pub mod Numbers
pub mod Aiming
