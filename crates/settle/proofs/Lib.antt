pub mod Settling
pub mod Seating
pub mod Housing
