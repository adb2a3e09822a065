pub mod Answers
pub mod Flushes
pub mod Seals
