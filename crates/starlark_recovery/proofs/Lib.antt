-- Where each proof is. What belongs to one function is in a folder that has its name.
-- RestartPlaces: the place: the next line begins at a character boundary; what the search of it reads.
-- RecoveredItems: items: those of a text that are left, by its lexemes, its fault, and what is after that.
-- PartRests: what is left of a part: its outcome, its fault, and where that is passed.
-- RecoveryStates: a lexer that goes on: what is left to it after each fault.
-- RecoverySteps: its answers.
-- PassedQuotes: open quotes that are passed: the part that begins at their line end.
-- StandingLexemes: what stands for a fault that is passed.
-- Passes: a fault that was passed, and whether it keeps its line.
-- LiteralBytes: literals with a bad escape: what is left of one, byte by byte.
pub mod LiteralBytes
pub mod PartRests
pub mod RecoveredItems
pub mod RestartPlaces
pub mod RecoveryStates
pub mod RecoverySteps
pub mod PassedQuotes
pub mod StandingLexemes
pub mod Passes
