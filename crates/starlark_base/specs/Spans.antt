-- Spans, by the byte offsets of their begin and their end, and source texts.
use Rattle.std.specs.Prelude.{ℕ, List}

-- the bytes of a text
abbrev pub Text : Type 0
Text = List ℕ

-- what lies between two positions
pub record ByteSpan : Type 0 where
  pub begin : ℕ
  pub end : ℕ

-- a source text with its number and its file's name
pub record SourceFile : Type 0 where
  pub id : ℕ
  pub filename : Text
  pub source : Text
