pub mod Cleaning
pub mod Flushing
pub mod Layers
pub mod Looks
pub mod NumberPlaces
pub mod PageLoops
pub mod Raising
pub mod Strokes
