pub mod Fitness
pub mod Names
pub mod OneMore
pub mod Places
pub mod Reading
