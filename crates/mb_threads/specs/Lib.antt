pub mod Workers
pub mod Driven
