pub mod Layout
pub mod Machine
pub mod Consistent
pub mod CasesOfStates
pub mod CasesOfMachines
