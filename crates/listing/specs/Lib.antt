pub mod Records
pub mod Lines
pub mod Listing
pub mod Cases
