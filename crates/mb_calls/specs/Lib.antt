pub mod Asks
pub mod Continuing
pub mod Endings
pub mod Following
pub mod Halts
pub mod Looked
pub mod Performed
pub mod Spots
