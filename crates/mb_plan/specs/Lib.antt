pub mod Fires
pub mod Hooked
pub mod Marks
