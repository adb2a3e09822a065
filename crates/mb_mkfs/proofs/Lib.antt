pub mod Blocks
pub mod Chaining
pub mod Overwriting
pub mod Rooting
pub mod SuperBytes
pub mod Values
