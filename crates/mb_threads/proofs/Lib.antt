pub mod Making
pub mod Gathering
pub mod Covering
pub mod Sending
pub mod Together
pub mod Apart
