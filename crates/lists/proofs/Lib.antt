-- Laws that belong to no one function.
pub mod Charges
pub mod Places
pub mod WordsRead
pub mod Walk
pub mod LineLaws
