pub mod Filling
pub mod Listings
pub mod Opened
pub mod Sweeping
