pub mod Fields
pub mod Spoken
pub mod Dialog
pub mod Cases
