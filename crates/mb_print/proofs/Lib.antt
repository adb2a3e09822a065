mod Digits
pub mod Remaining
