-- Where a text may be cut, in margins with pending lexemes.
use Rattle.std.specs.Prelude.{◌≡◌, ◌≤◌, ◌<◌, true, ℕ, ◌+◌, List, ◌++◌, length, drop, sum_by, take, ◌⊎◌}
use Rattle.starlark_grammar.specs.Words.{Text, language}
use Rattle.starlark_grammar.specs.Margins.{lines}
use Rattle.starlark_grammar.specs.Reading.{outcome, pieces_len, read}
use Rattle.starlark_grammar.specs.Cuts.{is_clean_cut, is_kept_cut, without_closing}
use Rattle.starlark_reader.specs.Inner.Pending.{lines_between}
use Rattle.starlark_reader.specs.declared.pending.Pending.{Pending}

-- the number of lexemes of a text before a kept cut
abbrev pub lexemes_before : Text → ℕ → ℕ
lexemes_before text at = length (without_closing (outcome (take at text)).lexemes)

-- byte `at` is a kept cut before the text's end, and `ahead` lexemes are after it
pub record IsCutBefore (text : Text) (at ahead : ℕ) : Type 0 where
  pub inside : at < length text
  pub is_kept : is_kept_cut text at ≡ true
  pub count : lexemes_before text at + ahead ≡ length (outcome text).lexemes

-- byte `at` is after some of the lines whose comments are pending: `remainder` lexemes are after it,
-- if `ahead` are after byte `pending.from`
pub record IsAfterLines (text : Text) (pending : Pending) (at remainder ahead : ℕ) : Type 0 where
  pub passed : ℕ
  pub few : passed ≤ length (lines_between text pending.from pending.to)
  pub place : at ≡ pending.from + sum_by (λ (line : Text). length line) (take passed (lines_between text pending.from pending.to))
  pub count : remainder + passed ≡ ahead

-- in a margin with no indent open before it, byte `pending.from` is the margin's start or after a
-- line of it; all lexemes before that byte were yielded, and `ahead` of the text are left
pub record IsMarginAhead (text : Text) (pending : Pending) (ahead : ℕ) : Type 0 where
  pub before : ℕ
  pub more : List Text
  pub lines_left : lines (drop pending.from text) ≡ lines_between text pending.from pending.to ++ more
  pub reach : pending.to ≤ pieces_len (read language text).pieces
  pub known : ((pending.from ≡ 0) × (before ≡ 0)) ⊎ ((is_clean_cut (take pending.from text) ≡ true) × (lexemes_before text pending.from ≡ before))
  pub count : before + ahead ≡ length (outcome text).lexemes
