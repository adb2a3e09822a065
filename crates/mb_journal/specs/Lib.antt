pub mod Faults
pub mod Room
