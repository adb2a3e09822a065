pub mod Chains
pub mod CopyLoops
pub mod Numbers
pub mod Renewals
pub mod Seen
pub mod Stored
pub mod Zipped
