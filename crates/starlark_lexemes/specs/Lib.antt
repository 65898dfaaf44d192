pub mod Lexer
pub mod LexerIterator
pub mod CutAfter
pub mod PlainLexemes
pub mod SourceErrors
pub mod Inner
pub mod LexerSteps
