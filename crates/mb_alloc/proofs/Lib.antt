pub mod Caching
pub mod Erasings
pub mod Freeings
pub mod Picking
pub mod Scanning
pub mod Supers
pub mod Takings
pub mod Within
