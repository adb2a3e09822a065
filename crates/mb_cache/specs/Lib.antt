pub mod CacheLaws
pub mod Clean
pub mod Kept
pub mod Pages
pub mod Stamps
pub mod State
