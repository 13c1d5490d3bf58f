pub mod Changes
pub mod Swept
