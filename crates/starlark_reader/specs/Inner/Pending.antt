-- Pending lexemes, as the grammar sees them.
use Rattle.std.specs.Prelude.{◌≡◌, ◌≤◌, ◌<◌, ℕ, ◌+◌, ◌-◌, List, [], ◌∷◌, ◌++◌, Option, Some, None, true, map, length, take, drop, replicate, ⊤}
use Rattle.std.specs.List.{AllByRecursion}
use Rattle.std.specs.Str.{IsCharBoundary}
use Rattle.starlark_grammar.specs.Words.{Text}
use Rattle.starlark_grammar.specs.Tokens as grammar
use Rattle.starlark_grammar.specs.Laws.{AtBoundaries}
use Rattle.starlark_grammar.specs.Margins.{comments_from, is_comment_only, lines}
use Rattle.starlark_token.specs.Lexemes.{lexeme_view, shown_lexeme}
use Rattle.starlark_token.specs.TokenViews.{TokenView, Whole}
use Rattle.starlark_reader.specs.Inner.PieceViews.{text_end}
use Rattle.starlark_reader.specs.declared.pending.AfterComments.{AfterComments}
use Rattle.starlark_reader.specs.declared.pending.AfterComments.TheVariants as remainder
use Rattle.starlark_reader.specs.declared.pending.Pending.{Pending}
use Rattle.starlark_token.specs.declared.tokens.Token.{Token}

-- the lines of a text from byte `from` to `to`
abbrev pub lines_between : Text → ℕ → ℕ → List Text
lines_between text from to = lines (take (to - from) (drop from text))

-- how many bytes of comment-only lines have pending comments
abbrev pub owed : Pending → ℕ
owed pending = pending.to - pending.from

-- the lexemes that are pending after the comments
abbrev pub lexemes_after : AfterComments → List grammar.Lexeme
lexemes_after (remainder.Dedents at count) = replicate count (record { begin = at; node = grammar.Dedent; end = at })
lexemes_after (remainder.Indent begin end) = record { begin = begin; node = grammar.Indent; end = end } ∷ []
lexemes_after (remainder.ChunkEnd begin before_expression end) = record { begin = begin; node = text_end before_expression; end = end } ∷ []

-- all pending lexemes: comments of lines, and the lexemes after them
unfoldable pub pending_lexemes : Text → Pending → List grammar.Lexeme
pending_lexemes text pending = comments_from pending.from (lines_between text pending.from pending.to) ++ lexemes_after pending.remainder

-- all lines from byte `from` to `to` are comment-only, and their comments begin and end at
-- character boundaries
pub record IsComments (text : Text) (from to : ℕ) : Type 0 where
  pub order : from ≤ to
  pub inside : to ≤ length text
  pub comments : AllByRecursion (λ (line : Text). is_comment_only line ≡ true) (lines_between text from to)
  pub edges : AllByRecursion (AtBoundaries text) (comments_from from (lines_between text from to))

-- the pending comments are those of comment-only lines of the text
abbrev pub IsPending : Text → Pending → Type 0
IsPending text pending = IsComments text pending.from pending.to

-- no lexeme is pending
abbrev pub IsIdle : Text → Pending → Type 0
IsIdle text pending = IsPending text pending × (pending_lexemes text pending ≡ [])

-- the comment from byte `begin` to `end`, whose value is all after its `#`
abbrev pub comment_lexeme : Text → ℕ → ℕ → grammar.Spanned TokenView
comment_lexeme text begin end = record { begin = begin; node = Whole (grammar.Comment (take (end - (begin + 1)) (drop (begin + 1) text))); end = end }

-- a comment and its value begin and end at character boundaries
pub record IsCommentIn (text : Text) (begin end : ℕ) : Type 0 where
  pub order : begin < end
  pub first : IsCharBoundary text begin
  pub value : IsCharBoundary text (begin + 1)
  pub last : IsCharBoundary text end

-- a token that is pending after comments: an indent, a dedent, or the end of an f-string text
abbrev pub IsPendingToken : TokenView → Type 0
IsPendingToken (Whole grammar.Indent) = ⊤
IsPendingToken (Whole grammar.Dedent) = ⊤
IsPendingToken (Whole grammar.FStringExprStart) = ⊤
IsPendingToken (Whole grammar.FStringEnd) = ⊤
IsPendingToken view = ⊥

-- the first lexeme after the comments was taken, or there was none and nothing changed
abbrev pub IsFirstAfter : AfterComments → AfterComments → Option (ℕ × Token × ℕ) → Type 0
IsFirstAfter old new None = (lexemes_after old ≡ []) × (new ≡ old)
IsFirstAfter old new (Some found) = map shown_lexeme (lexemes_after old) ≡ lexeme_view found ∷ map shown_lexeme (lexemes_after new)

-- the first pending lexeme was passed
abbrev pub IsFirstPast : Text → grammar.Spanned TokenView → Pending → Pending → Type 0
IsFirstPast text lexeme old new = IsPending text new × (map shown_lexeme (pending_lexemes text old) ≡ lexeme ∷ map shown_lexeme (pending_lexemes text new))

-- the first pending lexeme was taken, or there was none and nothing changed
abbrev pub IsFirst : Text → Pending → Pending → Option (ℕ × Token × ℕ) → Type 0
IsFirst text old new None = (pending_lexemes text old ≡ []) × (new ≡ old)
IsFirst text old new (Some found) = IsFirstPast text (lexeme_view found) old new
