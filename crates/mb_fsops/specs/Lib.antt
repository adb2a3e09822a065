pub mod Attributes
pub mod Creating
pub mod Links
pub mod MakingDirs
pub mod Performing
pub mod Places
pub mod Releasing
pub mod Removing
