-- Definitions that only contracts of inner functions, and proofs, cite.
pub mod LexerStates
pub mod RawItems
