-- Where the text of a lexer may be cut.
use Rattle.std.specs.Prelude.{◌≡◌, ◌<◌, ℕ, true, length, take, Option, Some}
use Rattle.starlark_grammar.specs.Cuts.{is_kept_cut, without_closing}
use Rattle.starlark_grammar.specs.Reading.{outcome}
use Rattle.starlark_grammar.specs.Words.{Text}

-- byte `at` is a kept cut before the text's end, and `count` lexemes are before it
pub record IsCutAfter (text : Text) (count at : ℕ) : Type 0 where
  pub inside : at < length text
  pub is_kept : is_kept_cut text at ≡ true
  pub lexemes : length (without_closing (outcome (take at text)).lexemes) ≡ count

-- the kept cut with `count` lexemes before it is known, if there is one
abbrev pub KnowsCut : Text → (count : ℕ) → Option ℕ → Type 0
KnowsCut text count known = (at : ℕ) → IsCutAfter text count at → known ≡ Some at
