-- What only contracts of inner functions, and proofs, speak of.
pub mod Costs
pub mod Segments
pub mod LexedFronts
pub mod EditedParts
