-- What stands at a place of a body, by its first byte.
use Rattle.std.proofs.Common.{◌≡◌, ◌≢◌, ℕ, ◌==◌, ◌&&◌, not, Bool, true, false, [], ◌∷◌, length, ◌+◌, take, drop, refl, one-add, Some, None, nat_eq, arith}
use Rattle.std.proofs.lemmas.Bool.{eqb-true, false_from_ne_true}
use Rattle.std.specs.List.{slice_get, starts_with}
use Rattle.starlark_grammar.specs.Words.{Text}
use Rattle.starlark_grammar.specs.declared.class.LiteralKind.{LiteralKind as Kind}
use Rattle.starlark_grammar.specs.declared.class.Quote.{Quote}
use Rattle.starlark_grammar.specs.declared.class.Quote.TheVariants.{Single as SingleQuote, Double as DoubleQuote}
use Rattle.starlark_grammar.specs.Items.{Literal, Stops, Closing, Line, Ended, goes, closing_quotes, escape, raw_pair, drops_backslash, brace, is_brace, found_at}
use Rattle.starlark_grammar.specs.FrontCharacter.{first_character}

unequal : (a b : ℕ) → (a ≡ b → ⊥) → (a == b) ≡ false
unequal a b h = false_from_ne_true _ (λ e. h (eqb-true a b e))

abbrev pub closes : Literal → Text → Bool
closes literal text = starts_with nat_eq text (closing_quotes literal.opening)

abbrev pub ends_line : Literal → ℕ → Bool
ends_line literal b = b == 10 && not literal.opening.is_triple

pub at_end : (literal : Literal) (text : Text) → slice_get text 0 ≡ None → found_at literal text ≡ Stops Ended
unfolding found_at
at_end literal [] h = refl
at_end literal (b ∷ bs) h = grind arith

pub at_closing : (literal : Literal) (text : Text) (b : ℕ) → slice_get text 0 ≡ Some b → closes literal text ≡ true → found_at literal text ≡ Stops Closing
unfolding found_at
at_closing literal [] b first closing = grind arith
at_closing literal (x ∷ bs) b first closing = rw closing refl

-- the byte of a text that has one
first_is : (x b : ℕ) (bs : Text) → slice_get (x ∷ bs) 0 ≡ Some b → x ≡ b
first_is x b bs h = cc

pub at_line : (literal : Literal) (text : Text) (b : ℕ) → slice_get text 0 ≡ Some b → closes literal text ≡ false → ends_line literal b ≡ true → found_at literal text ≡ Stops Line
unfolding found_at
at_line literal [] b first stays line = grind arith
at_line literal (x ∷ bs) b first stays line = rw (stays, first_is x b bs first, line) refl

pub at_return : (literal : Literal) (text : Text) (b : ℕ) → slice_get text 0 ≡ Some b → closes literal text ≡ false → ends_line literal b ≡ false → b ≡ 13 → found_at literal text ≡ goes 1 []
unfolding found_at
at_return literal [] b first stays line return = grind arith
at_return literal (x ∷ bs) b first stays line return = rw (stays, first_is x b bs first, line, return) refl

-- a backslash is no quote
backslash_stays : (literal : Literal) (rest : Text) → closes literal (92 ∷ rest) ≡ false
backslash_stays literal rest = go literal.opening.is_triple literal.opening.quote
  where
    go : (is_triple : Bool) (quote : Quote) → starts_with nat_eq (92 ∷ rest) (closing_quotes (record { is_raw = literal.opening.is_raw; quote = quote; is_triple = is_triple })) ≡ false
    go true SingleQuote = refl
    go true DoubleQuote = refl
    go false SingleQuote = refl
    go false DoubleQuote = refl

pub at_raw : (literal : Literal) (text : Text) (b : ℕ) → slice_get text 0 ≡ Some b → b ≡ 92 → literal.opening.is_raw ≡ true → found_at literal text ≡ raw_pair literal.kind literal.opening.quote (drop 1 text)
unfolding found_at
at_raw literal [] b first backslash raw = grind arith
at_raw literal (x ∷ bs) b first backslash raw = rw (first_is x b bs first, backslash, backslash_stays literal bs, raw) refl

pub at_escape : (literal : Literal) (text : Text) (b : ℕ) → slice_get text 0 ≡ Some b → b ≡ 92 → literal.opening.is_raw ≡ false → found_at literal text ≡ escape literal.kind (drop 1 text)
unfolding found_at
at_escape literal [] b first backslash raw = grind arith
at_escape literal (x ∷ bs) b first backslash raw = rw (first_is x b bs first, backslash, backslash_stays literal bs, raw) refl

pub at_brace : (literal : Literal) (text : Text) (b : ℕ) → slice_get text 0 ≡ Some b → closes literal text ≡ false → ends_line literal b ≡ false → b ≢ 13 → b ≢ 92 → is_brace literal.kind b ≡ true
    → found_at literal text ≡ brace b (drop 1 text)
unfolding found_at
at_brace literal [] b first stays line other plain braced = grind arith
at_brace literal (x ∷ bs) b first stays line other plain braced = rw (stays, first_is x b bs first, line, unequal b 13 other, unequal b 92 plain, braced) refl

pub at_plain : (literal : Literal) (text : Text) (b : ℕ) → slice_get text 0 ≡ Some b → closes literal text ≡ false → ends_line literal b ≡ false → b ≢ 13 → b ≢ 92 → is_brace literal.kind b ≡ false
    → found_at literal text ≡ goes (length (first_character text)) (first_character text)
unfolding found_at
at_plain literal [] b first stays line other plain braced = grind arith
at_plain literal (x ∷ bs) b first stays line other plain braced = rw (stays, first_is x b bs first, line, unequal b 13 other, unequal b 92 plain, braced) refl

-- a raw backslash, by the text after it
pub raw_end : (kind : Kind) (quote : Quote) (text : Text) → slice_get text 0 ≡ None → raw_pair kind quote text ≡ Stops Ended
unfolding raw_pair
raw_end kind quote [] h = refl
raw_end kind quote (b ∷ bs) h = grind arith

pub raw_dropped : (kind : Kind) (quote : Quote) (text : Text) (b : ℕ) → slice_get text 0 ≡ Some b → drops_backslash kind quote b ≡ true → raw_pair kind quote text ≡ goes (1 + length (first_character text)) (first_character text)
unfolding raw_pair
raw_dropped kind quote [] b first drops = grind arith
raw_dropped kind quote (x ∷ bs) b first drops = rw (first_is x b bs first, drops) refl

pub raw_kept : (kind : Kind) (quote : Quote) (text : Text) (b : ℕ) → slice_get text 0 ≡ Some b → drops_backslash kind quote b ≡ false → raw_pair kind quote text ≡ goes (1 + length (first_character text)) (92 ∷ first_character text)
unfolding raw_pair
raw_kept kind quote [] b first keeps = grind arith
raw_kept kind quote (x ∷ bs) b first keeps = rw (first_is x b bs first, keeps) refl

-- a backslash and what stands after it, cut after so many bytes
pub cut_after : (text remainder : Text) (len : ℕ) → text ≡ 92 ∷ remainder → take (1 + len) text ≡ 92 ∷ take len remainder
cut_after text remainder len same = rw (same, one-add) refl
