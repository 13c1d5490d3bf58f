pub mod CasesOfDemands
pub mod Sound
pub mod Order
pub mod Demand
pub mod Counts
pub mod Wrong
