-- Definitions that only contracts of inner functions, and proofs, cite.
pub mod FaultLine
pub mod EditedTexts
pub mod BufferedWrites
