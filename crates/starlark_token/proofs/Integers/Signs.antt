-- Signs at the front of a text, and where a text may be cut after one.
use Rattle.std.proofs.Common.{◌≡◌, ℕ, ◌<◌, true, false, List, [], ◌∷◌, length, get_or, drop, refl, arith}
use Rattle.std.specs.Str.{IsUtf8, IsCharBoundary}
use Rattle.starlark_grammar.specs.Words.{is_sign, unsigned}
use Rattle.std.proofs.lemmas.Str.{IsCharBoundary-after_ascii}

-- after a sign
pub unsigned_signed : (text : List ℕ) → is_sign (get_or text 0 0) ≡ true → drop 1 text ≡ unsigned text
unsigned_signed [] signed = grind arith
unsigned_signed (b ∷ bs) signed = rw signed refl

pub unsigned_plain : (text : List ℕ) → is_sign (get_or text 0 0) ≡ false → text ≡ unsigned text
unsigned_plain [] plain = refl
unsigned_plain (b ∷ bs) plain = rw plain refl

-- signs are ASCII
sign_is_ascii : (b : ℕ) → is_sign b ≡ true → b < 128
sign_is_ascii b sign = grind arith

sign_is_there : (text : List ℕ) → is_sign (get_or text 0 0) ≡ true → 0 < length text
sign_is_there [] signed = grind arith
sign_is_there (b ∷ bs) signed = grind arith

pub boundary_after_sign : (text : List ℕ) → IsUtf8 text → is_sign (get_or text 0 0) ≡ true → IsCharBoundary text 1
boundary_after_sign text utf8 signed = IsCharBoundary-after_ascii text 0 utf8 (sign_is_there text signed) (sign_is_ascii (get_or text 0 0) signed)
