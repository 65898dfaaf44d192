-- Literals and f-string texts as pieces.
pub mod LiteralPieces
pub mod Chunks
pub mod StepReads
