-- What the parser of 32 bit integers says, in the grammar's words.
use Rattle.std.proofs.Common.{◌≡◌, ℕ, zero, suc, ◌^◌, ◌<◌, ◌≤◌, ◌==◌, Bool, true, false, ◌||◌, cond, [], ◌∷◌, drop, refl, arith, Some, None}
use Rattle.std.specs.Prelude.{ℤ, FitsSigned}
use Rattle.std.specs.Char.{is_digit, digit_value}
use Rattle.std.specs.List.{list_all}
use Rattle.std.specs.Int.{w32}
use Rattle.std.specs.Str.Parse.{AllDigits, IsNumeral, without_leading_sign, starts_with_minus, signed_digits_value, digits_value}
use Rattle.starlark_grammar.specs.Words.{Text, is_run, unsigned}
use Rattle.starlark_token.specs.BigIntegers.{IsCanonical}
use Rattle.starlark_grammar.proofs.Words.IntegerValues.{plain_value}
use Rattle.starlark_token.proofs.Integers.PlainDigits.{plain_digits_are_plain}
use Rattle.starlark_grammar.specs.Numbers.{Small, Big, is_negative, is_number, is_small, signed, plain_digits, integer_of, integer_in}
use Rattle.std.proofs.lemmas.Bool.{ltb-true, and_parts}

-- the sign
unsigned_is : (text : Text) → unsigned text ≡ without_leading_sign text
unsigned_is [] = refl
unsigned_is (b ∷ bs) = go (b == 45) (b == 43)
  where
    go : (minus plus : Bool) → drop (cond (plus || minus) 1 0) (b ∷ bs) ≡ cond minus (drop 1 (b ∷ bs)) (drop (cond plus 1 0) (b ∷ bs))
    go true true = refl
    go true false = refl
    go false true = refl
    go false false = refl

is_negative_is : (text : Text) → is_negative text ≡ starts_with_minus text
is_negative_is [] = refl
is_negative_is (b ∷ bs) = refl

-- the digits
all_digits : (base : ℕ) (digits : Text) → list_all (λ b. is_digit b base) digits ≡ true → AllDigits base digits
all_digits base [] h = tt
all_digits base (d ∷ ds) h =
    let parts = and_parts _ _ h in
    (ltb-true (digit_value d) base parts.0, all_digits base ds parts.1)

numeral : (base : ℕ) (digits : Text) → is_run (λ b. is_digit b base) digits ≡ true → IsNumeral base digits
numeral base [] h = grind arith
numeral base (d ∷ ds) h = (omega arith, all_digits base (d ∷ ds) h)

-- the value
small_fits : (minus : Bool) (n : ℕ) → is_small minus n ≡ true → FitsSigned w32 (signed minus n)
small_fits true zero h = record { sfits = omega arith }
small_fits true (suc n) h = record { sfits = grind arith }
small_fits false n h = record { sfits = grind arith }

fits_small : (minus : Bool) (n : ℕ) → FitsSigned w32 (signed minus n) → is_small minus n ≡ true
fits_small true zero h = refl
fits_small true (suc n) h = at_most n h.sfits
  where
    at_most : (n : ℕ) → n < 2 ^ 31 → is_small true (suc n) ≡ true
    at_most n h = grind arith
fits_small false n h = below n h.sfits
  where
    below : (n : ℕ) → n < 2 ^ 31 → is_small false n ≡ true
    below n h = grind arith

signed_is : (base : ℕ) (text : Text) → signed_digits_value base text ≡ signed (is_negative text) (digits_value base (unsigned text))
signed_is base text = rw (is_negative_is text, unsigned_is text) refl

-- The integer of a number's text, by whether it is small.
written_small : (base : ℕ) (text : Text) → is_number base text ≡ true → is_small (is_negative text) (digits_value base (unsigned text)) ≡ true
    → integer_in base text ≡ Some (Small (signed (is_negative text) (digits_value base (unsigned text))))
unfolding integer_in integer_of
written_small base text number small = rw (number, small) refl

written_big : (base : ℕ) (text : Text) → is_number base text ≡ true → is_small (is_negative text) (digits_value base (unsigned text)) ≡ false
    → integer_in base text ≡ Some (Big (is_negative text) (plain_digits (unsigned text)) base)
unfolding integer_in integer_of
written_big base text number big = rw (number, big) refl

pub no_number : (base : ℕ) (text : Text) → is_number base text ≡ false → integer_in base text ≡ None
unfolding integer_in
no_number base text none = rw none refl

-- the texts that the parser gives a value for
abbrev pub IsParsed : ℕ → Text → Type 0
IsParsed base text = IsNumeral base (without_leading_sign text) × FitsSigned w32 (signed_digits_value base text)

-- what it gives for one
pub parsed : (base : ℕ) (text : Text) (value : ℤ) → is_number base text ≡ true → IsParsed base text × (value ≡ signed_digits_value base text) → integer_in base text ≡ Some (Small value)
parsed base text value number parses =
    let same = signed_is base text in
    let fits : FitsSigned w32 (signed (is_negative text) (digits_value base (unsigned text))) = rw (← same) parses.0.1 in
    let small = fits_small (is_negative text) (digits_value base (unsigned text)) fits in
    rw (written_small base text number small, parses.1, same) refl

-- and a number's text that it gives no value for
big : (base : ℕ) (text : Text) → is_number base text ≡ true → ¬ (IsParsed base text) → is_small (is_negative text) (digits_value base (unsigned text)) ≡ false
big base text number refused = by_cases (is_small (is_negative text) (digits_value base (unsigned text))) refl
  where
    by_cases : (small : Bool) → is_small (is_negative text) (digits_value base (unsigned text)) ≡ small → small ≡ false
    by_cases false e = refl
    by_cases true e = absurd (refused (rw (← unsigned_is text) (numeral base (unsigned text) number), rw (signed_is base text) (small_fits (is_negative text) (digits_value base (unsigned text)) e)))

pub not_parsed : (base : ℕ) (text : Text) → is_number base text ≡ true → ¬ (IsParsed base text) → integer_in base text ≡ Some (Big (is_negative text) (plain_digits (unsigned text)) base)
not_parsed base text number refused = written_big base text number (big base text number refused)

pub is_kept : (base : ℕ) (text : Text) → 2 ≤ base → base ≤ 36 → is_number base text ≡ true → ¬ (IsParsed base text)
    → IsCanonical (record { is_negative = is_negative text; digits = plain_digits (unsigned text); radix = base })
is_kept base text least most number refused = record {
  least = least;
  most = most;
  plain = plain_digits_are_plain base (unsigned text) number;
  big = rw (plain_value base (unsigned text)) (big base text number refused);
}
