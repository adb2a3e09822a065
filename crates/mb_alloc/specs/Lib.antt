pub mod Freeing
pub mod Inodes
pub mod Numbers
pub mod Scanning
pub mod Taking
pub mod Worked
