-- The first character of a text: what its first byte says of its length, and where it ends.
use Rattle.std.proofs.Common.{◌≡◌, ℕ, ◌+◌, ◌/◌, ◌<◌, ◌≤◌, Bool, true, false, nat_lt, ◌++◌, length, take, refl, sym, ap, ◌∙◌, arith}
use Rattle.std.proofs.Math.Seq.{take-append_seam}
use Rattle.std.proofs.Math.Utf8.{encode}
use Rattle.std.proofs.lemmas.Bool.Decides.{nat_tests}
use Rattle.std.proofs.lemmas.Str.{IsCharBoundary-at_seam, IsUtf8-past_char}
use Rattle.std.specs.Str.{continuation_len, IsCharBoundary, IsUtf8}
use Rattle.starlark_grammar.specs.FrontCharacter.{first_character}
use Rattle.starlark_grammar.specs.Words.{Text}

is_less : (a b : ℕ) → nat_lt a b ≡ true → a < b
is_less a b h = grind (arith, nat_tests)

less : (a b : ℕ) → a < b → nat_lt a b ≡ true
less a b h = grind (arith, nat_tests)

not_less : (a b : ℕ) → b ≤ a → nat_lt a b ≡ false
not_less a b h = grind (arith, nat_tests)

of_two : (c : ℕ) → c < 2048 → continuation_len (192 + c / 64) ≡ 1
of_two c h = rw (not_less (192 + c / 64) 128 (omega arith), less (192 + c / 64) 224 (omega arith)) refl

of_three : (c : ℕ) → c < 65536 → continuation_len (224 + c / 4096) ≡ 2
of_three c h = rw (not_less (224 + c / 4096) 128 (omega arith), not_less (224 + c / 4096) 224 (omega arith), less (224 + c / 4096) 240 (omega arith)) refl

of_four : (c : ℕ) → continuation_len (240 + c / 262144) ≡ 3
of_four c = rw (not_less (240 + c / 262144) 128 (omega arith), not_less (240 + c / 262144) 224 (omega arith), not_less (240 + c / 262144) 240 (omega arith)) refl

-- the first byte of a character tells its length
first_encoded : (c : ℕ) (rest : Text) → first_character (encode c ++ rest) ≡ encode c
unfolding encode
first_encoded c rest = one (nat_lt c 128) refl
  where
    three : (below : Bool) → nat_lt c 65536 ≡ below → nat_lt c 128 ≡ false → nat_lt c 2048 ≡ false → first_character (encode c ++ rest) ≡ encode c
    three true e f g = rw (f, g, e, of_three c (is_less c 65536 e)) refl
    three false e f g = rw (f, g, e, of_four c) refl

    two : (below : Bool) → nat_lt c 2048 ≡ below → nat_lt c 128 ≡ false → first_character (encode c ++ rest) ≡ encode c
    two true e f = rw (f, e, of_two c (is_less c 2048 e)) refl
    two false e f = three (nat_lt c 65536) refl f e

    one : (below : Bool) → nat_lt c 128 ≡ below → first_character (encode c ++ rest) ≡ encode c
    one true e = rw (e, e) refl
    one false e = two (nat_lt c 2048) refl e

-- what a text's first character is, and where it ends
pub first_of_text : (text rest : Text) (c : ℕ) → text ≡ encode c ++ rest → first_character text ≡ encode c
first_of_text text rest c e = ap first_character e ∙ first_encoded c rest

pub taken : (text rest : Text) (c len : ℕ) → text ≡ encode c ++ rest → len ≡ length (encode c) → take len text ≡ first_character text
taken text rest c len e n = rw (n, e) (take-append_seam (encode c) rest ∙ sym (first_encoded c rest))

pub boundary_after : (text rest : Text) (c len : ℕ) → IsUtf8 text → text ≡ encode c ++ rest → len ≡ length (encode c) → IsCharBoundary text len
boundary_after text rest c len utf8 e n = rw n (IsCharBoundary-at_seam text (encode c) rest e (IsUtf8-past_char text rest c utf8 e))
