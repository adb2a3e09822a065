pub mod CallerLaws
pub mod Gathering
pub mod Pins
pub mod Stale
pub mod Tables
