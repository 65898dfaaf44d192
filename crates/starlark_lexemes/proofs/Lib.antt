-- Where each proof is. What belongs to one function is in a folder that has its name.
-- LexerReads: reads: of a piece, and after each step.
-- LexerItems, LexerStates: items: items by their number, inside of the text; what a call on the state returns is
--   the next.
-- FoundWords, PlainLexemes: the state at a word that the scanner has found, and after a lexeme was passed; a plain
--   lexeme as the grammar sees it; what is taken of what was passed.
-- LexerCuts: where a lexer may cut its text.
-- NextItems: what is left: the first of it, which is answered next.
-- MovedFaults: exceptions of faults that are moved.
pub mod FoundWords
pub mod LexerItems
pub mod LexerCuts
pub mod LexerReads
pub mod LexerStates
pub mod PlainLexemes
pub mod NextItems
pub mod MovedFaults
