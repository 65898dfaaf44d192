-- Definitions that only contracts of inner functions, and proofs, cite.
pub mod Reads
pub mod LaneMasks
pub mod LineFronts
pub mod ScannedWords
pub mod LiteralViews
pub mod PlainRuns
