pub mod OpenFiles
pub mod Ranges
