-- A text has as many characters as bytes that begin one.
use Rattle.std.proofs.Common.{◌≡◌, ℕ, ◌+◌, ◌/◌, ◌≤◌, Bool, true, false, cond, ◌||◌, ltb, leb, List, [], ◌∷◌, length, count_by, refl, ap, sym, ◌∙◌, arith}
use Rattle.std.proofs.lemmas.Bool.Decides.{nat_tests}
use Rattle.std.proofs.lemmas.List.Sums.{sum_by-append}
use Rattle.std.proofs.lemmas.Str.{encodes-chars}
use Rattle.std.specs.Str.{chars, IsUtf8}
use Rattle.starlark_text.specs.Characters.{starts_character, char_count}
use lib.Utf8.{encode, encodes, next}

abbrev begun : List ℕ → ℕ
begun bytes = count_by starts_character bytes

goes_on : (bits : ℕ) → starts_character (next bits) ≡ false
goes_on bits = grind (arith, nat_tests)

leads : (b : ℕ) → 192 ≤ b → starts_character b ≡ true
leads b high = grind (arith, nat_tests)

of_two : (a b : ℕ) → starts_character a ≡ true → starts_character b ≡ false → begun (a ∷ b ∷ []) ≡ 1
of_two a b first second = rw (first, second) refl

of_three : (a b c : ℕ) → starts_character a ≡ true → starts_character b ≡ false → starts_character c ≡ false → begun (a ∷ b ∷ c ∷ []) ≡ 1
of_three a b c first second third = rw (first, second, third) refl

of_four : (a b c d : ℕ) → starts_character a ≡ true → starts_character b ≡ false → starts_character c ≡ false → starts_character d ≡ false → begun (a ∷ b ∷ c ∷ d ∷ []) ≡ 1
of_four a b c d first second third fourth = rw (first, second, third, fourth) refl

-- the bytes of a character, by their number
of_length : (c : ℕ) (one two three : Bool) → (one ≡ true → starts_character c ≡ true)
    → begun (cond one (c ∷ []) (cond two ((192 + c / 64) ∷ next c ∷ []) (cond three ((224 + c / 4096) ∷ next (c / 64) ∷ next c ∷ []) ((240 + c / 262144) ∷ next (c / 4096) ∷ next (c / 64) ∷ next c ∷ [])))) ≡ 1
of_length c true two three low = rw (low refl) refl
of_length c false true three low = of_two (192 + c / 64) (next c) (leads (192 + c / 64) (omega arith)) (goes_on c)
of_length c false false true low = of_three (224 + c / 4096) (next (c / 64)) (next c) (leads (224 + c / 4096) (omega arith)) (goes_on (c / 64)) (goes_on c)
of_length c false false false low = of_four (240 + c / 262144) (next (c / 4096)) (next (c / 64)) (next c) (leads (240 + c / 262144) (omega arith)) (goes_on (c / 4096)) (goes_on (c / 64)) (goes_on c)

begun_once : (c : ℕ) → begun (encode c) ≡ 1
unfolding encode
begun_once c = of_length c (ltb c 128) (ltb c 2048) (ltb c 65536) (λ low. ap (λ b. b || leb 192 c) low)

begun_each : (cs : List ℕ) → begun (encodes cs) ≡ length cs
begun_each [] = refl
begun_each (c ∷ cs) = omega (arith, sum_by-append (λ b. cond (starts_character b) 1 0) (encode c) (encodes cs), begun_once c, begun_each cs)

-- as many characters as bytes that begin one
pub begun_count : (text : List ℕ) → IsUtf8 text → count_by starts_character text ≡ char_count text
begun_count text utf8 = ap begun (sym (encodes-chars text utf8)) ∙ begun_each (chars text)
