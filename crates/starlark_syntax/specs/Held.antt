-- The code map of a text holds its lexemes and its fault, and resolves them to counted lines and
-- columns.
use Rattle.std.specs.Prelude.{◌≡◌, ◌≤◌, ℕ, IfSome, length, take, count_by}
use Rattle.std.specs.List.{AllByRecursion, after_last}
use Rattle.std.specs.Str.{IsUtf8, chars}
use Rattle.starlark_base.specs.Places.{is_lf, resolved}
use Rattle.starlark_base.specs.Sources.{Holds}
use Rattle.starlark_base.specs.Spans.{ByteSpan}
use Rattle.starlark_base.specs.declared.codemap.resolved.ResolvedPos.{ResolvedPos}
use Rattle.starlark_grammar.specs.Words.{Text}
use Rattle.starlark_grammar.specs.Tokens.{Spanned}
use Rattle.starlark_grammar.specs.Reading.{outcome}

-- the span of a lexeme or a fault
abbrev pub span_of : {A : Type 0} → Spanned A → ByteSpan
span_of x = record { begin = x.begin; end = x.end }

-- the line is the number of LF before byte `at`, and the column the number of characters since the
-- last of them
abbrev pub IsCounted : Text → ℕ → ResolvedPos → Type 0
IsCounted text at place =
    (place.line ≡ count_by is_lf (take at text)) × (place.column ≡ length (chars (after_last is_lf (take at text))))

-- the text holds the span of a lexeme or a fault, and both ends resolve to counted lines and
-- columns
pub record IsHeld {A : Type 0} (text : Text) (x : Spanned A) : Type 0 where
  pub order : x.begin ≤ x.end
  pub held : Holds text (span_of x)
  pub begin : IsCounted text x.begin (resolved text (span_of x)).begin
  pub end : IsCounted text x.end (resolved text (span_of x)).end

-- this is so of each lexeme of a UTF-8 text
abbrev pub LexemesHeld : Type 0
LexemesHeld = (text : Text) → IsUtf8 text → AllByRecursion (IsHeld text) (outcome text).lexemes

-- this is so of the fault of a UTF-8 text, if it has one
abbrev pub FaultHeld : Type 0
FaultHeld = (text : Text) → IsUtf8 text → IfSome (outcome text).fault (IsHeld text)
