pub mod Arguments
pub mod Blanks
pub mod Examples
pub mod JobCalls
pub mod Numerals
pub mod Ranges
pub mod ReadBack
pub mod Writables
