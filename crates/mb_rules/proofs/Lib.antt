pub mod Bounds
pub mod Chains
pub mod Files
pub mod FilesAccepted
pub mod FreeChains
pub mod ReachedTrees
pub mod Reaching
pub mod Walks
pub mod Ways
mod Worked
