pub mod Hanging
pub mod Locating
pub mod Stepping
pub mod Walking
