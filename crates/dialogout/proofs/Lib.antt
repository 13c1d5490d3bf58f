-- Laws that belong to no one function.
pub mod Rooms
pub mod Collected
