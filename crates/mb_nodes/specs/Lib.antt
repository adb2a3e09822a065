pub mod Bodies
pub mod Fresh
pub mod Laws
pub mod Stored
pub mod Underway
pub mod Worked
