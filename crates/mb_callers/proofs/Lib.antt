pub mod Gatherings
pub mod PinSteps
pub mod Staleness
pub mod Sums
pub mod UndoSteps
