pub mod LexedTexts
pub mod Inner
