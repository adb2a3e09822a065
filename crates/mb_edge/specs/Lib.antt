pub mod Blocks
pub mod Causes
pub mod Crossings
pub mod Damage
pub mod Hooks
pub mod Memory
pub mod Schedule
pub mod Transfers
