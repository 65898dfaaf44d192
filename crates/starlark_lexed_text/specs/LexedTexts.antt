-- Lexed texts, as their users see them.
use Rattle.std.specs.Prelude.{◌≡◌, ◌≤◌, ◌+◌, ◌*◌, ◌-◌, ◌⊎◌, true, ℕ, List, ◌++◌, map, take, length, Option, None}
use Rattle.std.specs.List.{AllByRecursion}
use Rattle.starlark_base.specs.Sources.{SourceFile}
use Rattle.starlark_base.specs.Diagnostics.{Diagnosed}
use Rattle.starlark_errors.specs.declared.error.kinds.ErrorKind.{ErrorKind}
use Rattle.starlark_grammar.specs.Words.{Text}
use Rattle.starlark_grammar.specs.Tokens as grammar
use Rattle.starlark_grammar.specs.Reading.{outcome}
use Rattle.starlark_grammar.specs.Cuts.{is_kept_cut}
pub use Rattle.starlark_errors.specs.Exceptions.{IsFaultIn}
use Rattle.starlark_token.specs.Lexemes.{shown_lexeme}
use Rattle.starlark_token.specs.TokenViews.{TokenView}

-- a lexed text: its text, its lexemes, the exception of its fault, and the number of bytes read for
-- it
pub record LexedView : Type 0 where
  pub text : Text
  pub lexemes : List (grammar.Spanned TokenView)
  pub fault : Option (Diagnosed ErrorKind)
  pub reads : ℕ

-- the lexed text has the lexemes of its text, and the text's fault in a code map
pub record IsLexed (file : SourceFile) (lexed : LexedView) : Type 0 where
  pub lexemes : lexed.lexemes ≡ map shown_lexeme (outcome lexed.text).lexemes
  pub fault : IsFaultIn file (outcome lexed.text).fault lexed.fault

-- two lexed texts joined: the first one's lexemes without the last, and the second one's, moved by
-- the first text's length; no byte is read
abbrev pub joined : LexedView → LexedView → LexedView
joined first second = record {
  text = first.text ++ second.text;
  lexemes = take (length first.lexemes - 1) first.lexemes ++ map (grammar.moved (length first.text)) second.lexemes;
  fault = None;
  reads = 0;
}

-- after an edit the text was read from byte `at` on, which is the old text's last kept cut at or
-- before byte `from`, or 0 if it has none: each byte after it about sixteen times at most, and at
-- least once if there is no fault; the first lexemes are the old text's, and the others begin at or
-- after byte `at`
pub record IsReadFrom (old : LexedView) (edited : Text) (from : ℕ) (lexed : LexedView) : Type 0 where
  pub at : ℕ
  pub before : at ≤ from
  pub is_kept : (at ≡ 0) ⊎ (is_kept_cut old.text at ≡ true)
  pub greatest : (other : ℕ) → other ≤ from → is_kept_cut old.text other ≡ true → other ≤ at
  pub most : lexed.reads ≤ 16 * (length edited - at + 1)
  pub least : lexed.fault ≡ None → length edited - at ≤ lexed.reads
  pub kept : ℕ
  pub more : List (grammar.Spanned TokenView)
  pub lexemes : lexed.lexemes ≡ take kept old.lexemes ++ more
  pub later : AllByRecursion (λ (lexeme : grammar.Spanned TokenView). at ≤ lexeme.begin) more
