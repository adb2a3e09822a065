pub mod Completes
pub mod Held
pub mod Outcomes
