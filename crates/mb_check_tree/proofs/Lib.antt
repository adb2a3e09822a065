pub mod Bounded
pub mod Fillings
pub mod NodesRead
pub mod Openings
pub mod SlotListings
pub mod SweptNodes
pub mod WholeFiles
