pub mod Aim
