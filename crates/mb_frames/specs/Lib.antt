pub mod Cells
pub mod Counts
pub mod Lends
pub mod Ownership
pub mod Pages
pub mod Pointers
pub mod Walks
pub mod Shape
