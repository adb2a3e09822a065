pub mod Draws
pub mod Calls
pub mod Faults
pub mod Generator
pub mod Laws
