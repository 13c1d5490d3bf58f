pub mod Packets
pub mod Taking
