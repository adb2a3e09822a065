pub mod BlockParts
pub mod DamageWorked
pub mod Fronts
pub mod Images
pub mod Writes
