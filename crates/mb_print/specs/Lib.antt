pub mod Causes
pub mod Places
pub mod Replies
pub mod Transcript
