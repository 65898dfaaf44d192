-- Definitions that only contracts of private functions, and proofs, cite.
pub mod CharacterCounts
