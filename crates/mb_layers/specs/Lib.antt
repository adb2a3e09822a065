pub mod Pages
pub mod Places
pub mod State
pub mod Tokens
