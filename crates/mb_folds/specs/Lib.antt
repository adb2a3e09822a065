pub mod Folded
pub mod Laws
pub mod Worked
