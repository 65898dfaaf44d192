-- Pending lexemes.
use Rattle.std.proofs.Common.{rules, arith, ◌≡◌, Bool, false, ℕ, ◌+◌, ◌≤◌, List, [], ◌∷◌, ◌++◌, ap, sym, ◌∙◌, length, map, refl, Some, None}
use Rattle.std.specs.Prelude.{Option, Result, Ok, Err, OnErr, option_to_list}
use Rattle.starlark_grammar.specs.Words.{Text}
use Rattle.starlark_grammar.specs.Margins.{comment_of}
use Rattle.starlark_grammar.specs.Tokens.{Lexeme, Spanned}
use Rattle.starlark_token.specs.TokenViews.{TokenView}
use Rattle.starlark_token.specs.Lexemes.{lexeme_view, shown_lexeme}
use Rattle.starlark_reader.specs.Inner.Pending.{IsCommentIn, IsComments, IsFirst, IsFirstAfter, IsFirstPast, IsIdle, IsPending, comment_lexeme, lexemes_after, lines_between, pending_lexemes}
use Rattle.starlark_reader.specs.declared.pending.AfterComments.{AfterComments}
use Rattle.starlark_reader.specs.declared.pending.Pending.{Pending}
use Rattle.starlark_token.specs.declared.tokens.Token.{Token}
use Rattle.starlark_reader.proofs.TakenMargins.Pending.{no_comments, no_lines_between}

-- the first line from byte `from` to `to` has the length and the comment found, and all after it
-- are comment-only
pub record IsFirstComment (text : Text) (from to begin end len : ℕ) : Type 0 where
  pub line : Text
  pub first : lines_between text from to ≡ line ∷ lines_between text (from + len) to
  pub whole : length line ≡ len
  pub comment : comment_lexeme text begin end ≡ shown_lexeme (comment_of from line)
  pub inside : IsCommentIn text begin end
  pub remainder : IsComments text (from + len) to

-- the first comment
pub comment_first : (text : Text) (old : Pending) (begin end len : ℕ) → IsFirstComment text old.from old.to begin end len
    → IsFirstPast text (comment_lexeme text begin end) old (record { from = old.from + len; to = old.to; remainder = old.remainder; is_flat = old.is_flat })
unfolding pending_lexemes
comment_first text old begin end len is = search rules

-- if no comments are pending, the first lexeme is the one after them
pub after_first : (text : Text) (old : Pending) (new : AfterComments) (flat : Bool) (found : Option (ℕ × Token × ℕ)) → IsPending text old → old.to ≤ old.from → IsFirstAfter old.remainder new found → (found ≡ None → flat ≡ old.is_flat)
    → IsFirst text old (record { from = old.from; to = old.to; remainder = new; is_flat = flat }) found
unfolding pending_lexemes
after_first text old new flat None is none h same = (rw (no_lines_between text old.from old.to none) h.0, rw (h.1, same refl) refl)
after_first text old new flat (Some found) is none h same = (is, rw (no_lines_between text old.from old.to none) h)

-- no lexeme is pending if no comments are and no lexeme after them is
pub nothing_left : (text : Text) (pending : Pending) → pending.to ≤ pending.from → lexemes_after pending.remainder ≡ [] → pending_lexemes text pending ≡ []
unfolding pending_lexemes
nothing_left text pending none empty = rw (no_lines_between text pending.from pending.to none, empty) refl

-- a statement that holds also holds after an error
pub after_error : {A E : Type 0} (result : Result A E) (P : Type 0) → P → OnErr result P
after_error (Ok x) P p = tt
after_error (Err e) P p = p

-- the first lexemes are those passed, and the others are pending
abbrev pub HandsPast : Text → List (Spanned TokenView) → Pending → List Lexeme → Type 0
HandsPast text passed pending lexemes = IsPending text pending × (map shown_lexeme lexemes ≡ passed ++ map shown_lexeme (pending_lexemes text pending))

-- the first of the lexemes may be the one given, and the others are pending
abbrev pub Hands : Text → Option (ℕ × Token × ℕ) → Pending → List Lexeme → Type 0
Hands text given pending lexemes = HandsPast text (map lexeme_view (option_to_list given)) pending lexemes

pub passes_one : (text : Text) (pending : Pending) (lexeme : Lexeme) → IsIdle text pending → HandsPast text (shown_lexeme lexeme ∷ []) pending (lexeme ∷ [])
passes_one text pending lexeme idle = (idle.0, ap (λ ls. shown_lexeme lexeme ∷ map shown_lexeme ls) (sym idle.1))

pub hands_none : (text : Text) (pending : Pending) → IsIdle text pending → Hands text None pending []
hands_none text pending idle = (idle.0, sym (ap (map shown_lexeme) idle.1))

pub hands_one : (text : Text) (pending : Pending) (found : ℕ × Token × ℕ) (lexeme : Lexeme) → IsIdle text pending → lexeme_view found ≡ shown_lexeme lexeme → Hands text (Some found) pending (lexeme ∷ [])
hands_one text pending found lexeme idle e = (idle.0, ap (λ v. v ∷ []) (sym e) ∙ ap (λ ls. lexeme_view found ∷ map shown_lexeme ls) (sym idle.1))

-- one lexeme, and more
pub passes_first : (text : Text) (pending : Pending) (view : Spanned TokenView) (lexeme : Lexeme) (more : List Lexeme) → IsPending text pending → view ≡ shown_lexeme lexeme → more ≡ pending_lexemes text pending → HandsPast text (view ∷ []) pending (lexeme ∷ more)
passes_first text pending view lexeme more is e f = (is, ap (λ v. v ∷ map shown_lexeme more) (sym e) ∙ ap (λ ls. view ∷ map shown_lexeme ls) f)

pub hands_first : (text : Text) (pending : Pending) (found : ℕ × Token × ℕ) (lexeme : Lexeme) (more : List Lexeme) → IsPending text pending → lexeme_view found ≡ shown_lexeme lexeme → more ≡ pending_lexemes text pending → Hands text (Some found) pending (lexeme ∷ more)
hands_first text pending found = passes_first text pending (lexeme_view found)

pub hands_later : (text : Text) (pending : Pending) (lexemes : List Lexeme) → IsPending text pending → lexemes ≡ pending_lexemes text pending → Hands text None pending lexemes
hands_later text pending lexemes is e = (is, ap (map shown_lexeme) e)

-- pending lexemes without comments before them
pub only_after : (text : Text) (remainder : AfterComments) → (pending_lexemes text (record { from = 0; to = 0; remainder = remainder; is_flat = false }) ≡ lexemes_after remainder) × IsPending text (record { from = 0; to = 0; remainder = remainder; is_flat = false })
unfolding pending_lexemes
only_after text remainder = (rw (no_lines_between text 0 0 (omega arith)) refl, no_comments text 0 (omega arith))
