pub mod Merging
pub mod Folding
pub mod Examples
