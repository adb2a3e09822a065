pub mod Lines
pub mod Makes
pub mod Words
pub mod Worked
