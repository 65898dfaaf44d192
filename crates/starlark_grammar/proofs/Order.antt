-- Lexemes are in order, and lie between characters.
pub mod Gaps
pub mod OrderedLexemes
pub mod Edges
pub mod Boundaries
pub mod WholeTexts
pub mod Inside
pub mod Rests
