-- The last `Newline` of a list of lexemes.
use Rattle.std.proofs.Common.{◌≡◌, ℕ, zero, suc, ◌<◌, Bool, true, false, List, [], ◌∷◌, map, take, length, refl, sym, subst, ◌∙◌, arith, Some, None}
use Rattle.std.specs.Prelude.{Option, slice_index_or}
use Rattle.starlark_grammar.specs.Tokens as grammar
use Rattle.starlark_grammar.specs.Tokens.{Lexeme}
use Rattle.starlark_grammar.specs.Cuts.{before_newline, is_newline}
use Rattle.starlark_token.specs.Lexemes.{lexeme_view, shown, shown_lexeme}
use Rattle.starlark_lexed_text.specs.Inner.LexedTexts.{last_newline_of}
use Rattle.starlark_token.specs.TokenViews.{Whole, is_newline_view, token_view}
use Rattle.starlark_token.specs.declared.tokens.Token.{Token}

-- with one lexeme more, by whether that is one
pub one_more_is : (xs : List (ℕ × Token × ℕ)) (at : ℕ) (d : ℕ × Token × ℕ) → at < length xs → is_newline_view (token_view (slice_index_or xs at d).1) ≡ true → last_newline_of (map lexeme_view (take (suc at) xs)) ≡ Some at
one_more_is [] at d inside is = absurd (omega (arith, inside))
one_more_is (x ∷ xs) zero d inside is = rw is refl
one_more_is (x ∷ xs) (suc at) d inside is = rw (one_more_is xs at d (omega (arith, inside)) is) refl

pub one_more_not : (xs : List (ℕ × Token × ℕ)) (at : ℕ) (d : ℕ × Token × ℕ) → at < length xs → is_newline_view (token_view (slice_index_or xs at d).1) ≡ false → last_newline_of (map lexeme_view (take (suc at) xs)) ≡ last_newline_of (map lexeme_view (take at xs))
one_more_not [] at d inside is = absurd (omega (arith, inside))
one_more_not (x ∷ xs) zero d inside is = rw is refl
one_more_not (x ∷ xs) (suc at) d inside is = rw (one_more_not xs at d (omega (arith, inside)) is) refl

-- the same token tells it
pub same_newline : (node : grammar.Token) → is_newline_view (Whole (shown node)) ≡ is_newline node
same_newline grammar.Newline = refl
same_newline node = refl

-- What is found among the lexemes as they are shown is found among those of the grammar.
pub none_shown : (ls : List Lexeme) → last_newline_of (map shown_lexeme ls) ≡ None → before_newline ls ≡ None
none_shown [] e = refl
none_shown (l ∷ ls) e = go (last_newline_of (map shown_lexeme ls)) refl (is_newline_view (Whole (shown l.node))) refl (λ f. none_shown ls f)
  where
    go : (rest : Option ℕ) → last_newline_of (map shown_lexeme ls) ≡ rest → (is : Bool) → is_newline_view (Whole (shown l.node)) ≡ is → (last_newline_of (map shown_lexeme ls) ≡ None → before_newline ls ≡ None) → before_newline (l ∷ ls) ≡ None
    go (Some at) f is g again = let some : Some (suc at) ≡ None = sym (rw f refl) ∙ e in cc
    go None f true g again = let some : Some 0 ≡ None = sym (rw (f, g) refl) ∙ e in cc
    go None f false g again = rw (again f, sym (same_newline l.node) ∙ g) refl

-- A `Newline` that was found: the lexemes before it, and where it begins.
pub record FoundNewline (ls : List Lexeme) (at : ℕ) : Type 0 where
  pub begin : ℕ
  pub is : before_newline ls ≡ Some (take at ls, begin)
  pub inside : at < length ls
  pub place : (d : Lexeme) → (slice_index_or ls at d).begin ≡ begin

pub some_shown : (ls : List Lexeme) (at : ℕ) → last_newline_of (map shown_lexeme ls) ≡ Some at → FoundNewline ls at
some_shown [] at e = cc
some_shown (l ∷ ls) at e = go (last_newline_of (map shown_lexeme ls)) refl (is_newline_view (Whole (shown l.node))) refl (λ k f. some_shown ls k f)
  where
    go : (rest : Option ℕ) → last_newline_of (map shown_lexeme ls) ≡ rest → (is : Bool) → is_newline_view (Whole (shown l.node)) ≡ is → ((k : ℕ) → last_newline_of (map shown_lexeme ls) ≡ Some k → FoundNewline ls k) → FoundNewline (l ∷ ls) at
    go (Some k) f is g again =
        let same : Some (suc k) ≡ Some at = sym (rw f refl) ∙ e in
        let found = again k f in
        let here : FoundNewline (l ∷ ls) (suc k) = record { begin = found.begin; is = rw found.is refl; inside = omega (arith, found.inside); place = found.place } in
        let equal : suc k ≡ at = cc in
        subst (FoundNewline (l ∷ ls)) equal here
    go None f true g again =
        let same : Some 0 ≡ Some at = sym (rw (f, g) refl) ∙ e in
        let here : FoundNewline (l ∷ ls) 0 = record { begin = l.begin; is = rw (none_shown ls f, sym (same_newline l.node) ∙ g) refl; inside = omega arith; place = λ d. refl } in
        let equal : 0 ≡ at = cc in
        subst (FoundNewline (l ∷ ls)) equal here
    go None f false g again = let none : None ≡ Some at = sym (rw (f, g) refl) ∙ e in cc
