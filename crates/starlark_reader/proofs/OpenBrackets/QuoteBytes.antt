-- The bytes of an open quote, one by one.
use Rattle.std.proofs.Common.{◌≡◌, ℕ, ◌+◌, ◌<◌, ◌≤◌, true, false, List, ◌∷◌, length, drop, refl}
use Rattle.std.specs.Prelude.{count_by, nat_lt}
use Rattle.std.proofs.Math.ListN.{get_or}
use Rattle.std.proofs.lemmas.List.{drop_more, drop_all}
use Rattle.starlark_grammar.specs.Depths.{is_any_closing, is_any_opening}
use Rattle.starlark_grammar.specs.KeptLines.{is_closing_byte, is_opening_byte, with_bracket, with_brackets}
use Rattle.starlark_grammar.specs.Tokens.{Token, Word}
use Rattle.starlark_grammar.specs.Words.{Text}
use Rattle.starlark_grammar.specs.declared.class.Terminal.TheVariants.{ClosingRound, OpeningRound}

-- one that opens a bracket, and one that closes one
pub opened_byte : (b : ℕ) (tokens : List Token) → is_opening_byte b ≡ true → Word OpeningRound ∷ tokens ≡ with_bracket b tokens
opened_byte b tokens opens = rw opens refl

pub closed_byte : (b : ℕ) (tokens : List Token) → is_opening_byte b ≡ false → is_closing_byte b ≡ true → nat_lt (count_by is_any_closing tokens) (count_by is_any_opening tokens) ≡ true → Word ClosingRound ∷ tokens ≡ with_bracket b tokens
closed_byte b tokens other closes more = rw (other, closes, more) refl

-- one byte further
pub next_byte : (tokens : List Token) (bytes : Text) (at d : ℕ) → at < length bytes → with_brackets (with_bracket (get_or bytes at d) tokens) (drop (at + 1) bytes) ≡ with_brackets tokens (drop at bytes)
unfolding with_brackets
next_byte tokens bytes at d less = rw (drop_more bytes at d less) refl

-- at their end
pub no_byte : (tokens : List Token) (bytes : Text) (at : ℕ) → length bytes ≤ at → with_brackets tokens (drop at bytes) ≡ tokens
unfolding with_brackets
no_byte tokens bytes at past = rw (drop_all at bytes past) refl
