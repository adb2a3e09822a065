pub mod Clearing
pub mod Erasing
pub mod Finding
pub mod Freeing
pub mod Putting
pub mod Reading
pub mod Walking
