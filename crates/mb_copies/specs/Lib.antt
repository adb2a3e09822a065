pub mod Chains
pub mod Reads
pub mod Stale
