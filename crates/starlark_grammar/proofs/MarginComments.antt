-- The comments of a margin, one after another.
use Rattle.std.proofs.Common.{ℕ, List, [], ◌∷◌, ◌+◌, length}
use Rattle.starlark_grammar.specs.Words.{Text}
use Rattle.starlark_grammar.specs.Tokens.{Lexeme}
use Rattle.starlark_grammar.specs.Margins.{comment_lines, comment_of, comments_from, margin_of}

-- what holds of no comments, and stays where one more comes first, holds of those of some lines
comments_hold : (P : List Lexeme → Type 0) → P [] → ((at : ℕ) (line : Text) (rest : List Lexeme) → P rest → P (comment_of at line ∷ rest)) → (at : ℕ) (ls : List Text) → P (comments_from at ls)
comments_hold P none more at [] = none
comments_hold P none more at (line ∷ ls) = more at line _ (comments_hold P none more (at + length line) ls)

-- … and of those of a margin
pub margin_holds : (P : List Lexeme → Type 0) → P [] → ((at : ℕ) (line : Text) (rest : List Lexeme) → P rest → P (comment_of at line ∷ rest)) → (text : Text) → P (margin_of text).comments
unfolding margin_of
margin_holds P none more text = comments_hold P none more 0 (comment_lines text)
