-- Names of at most eight bytes, and their numbers.
use Rattle.std.proofs.Common.{◌≡◌, ◌≤◌, ◌<◌, ◌+◌, ◌-◌, ◌*◌, ◌/◌, ◌%◌, ◌^◌, ℕ, suc, zero, [], ◌∷◌, ◌++◌, true, false, nat_eq, length, take, get_or, refl, ap, ◌∙◌, arith, if◌then◌else◌}
use Rattle.std.proofs.Math.Nat.{pow-suc}
use Rattle.std.proofs.lemmas.Bool.{agree_below_at, and_parts, eqb-true}
use Rattle.std.proofs.lemmas.Bool.Decides.{nat_tests}
use Rattle.std.proofs.lemmas.Nat.{and_mask}
use Rattle.std.specs.Int.{from_le_bytes, w64}
use Rattle.std.specs.List.{list_all}
use Rattle.std.specs.Prelude.{bit_and}
use Rattle.starlark_grammar.specs.Words.{Text, is_in_name}
use Rattle.starlark_words.specs.Inner.ScannedWords.{word_number}
use Rattle.starlark_words.specs.declared.scanner.names.TheConstants.{MASKS}

-- eight bytes as one number
pub number_of_eight : (bytes : Text) → length bytes ≡ 8 → from_le_bytes w64 bytes ≡ word_number bytes
unfolding word_number
number_of_eight (a ∷ b ∷ c ∷ d ∷ e ∷ f ∷ g ∷ h ∷ []) len = omega arith
number_of_eight [] len = omega (arith, len)
number_of_eight (a ∷ []) len = omega (arith, len)
number_of_eight (a ∷ b ∷ []) len = omega (arith, len)
number_of_eight (a ∷ b ∷ c ∷ []) len = omega (arith, len)
number_of_eight (a ∷ b ∷ c ∷ d ∷ []) len = omega (arith, len)
number_of_eight (a ∷ b ∷ c ∷ d ∷ e ∷ []) len = omega (arith, len)
number_of_eight (a ∷ b ∷ c ∷ d ∷ e ∷ f ∷ []) len = omega (arith, len)
number_of_eight (a ∷ b ∷ c ∷ d ∷ e ∷ f ∷ g ∷ []) len = omega (arith, len)
number_of_eight (a ∷ b ∷ c ∷ d ∷ e ∷ f ∷ g ∷ h ∷ i ∷ rest) len = omega (arith, len)

-- zeros after a word leave its number
pub number_padded : (word zeros : Text) → word_number zeros ≡ 0 → word_number (word ++ zeros) ≡ word_number word
unfolding word_number
number_padded [] zeros none = none
number_padded (b ∷ word) zeros none = ap (λ n. b + 256 * n) (number_padded word zeros none)

-- the number of the first bytes is the remainder by a power
number_of_first : (n m : ℕ) (text : Text) → n ≤ m → ((i : ℕ) → get_or text i 0 < 256) → word_number (take m text) % 256 ^ n ≡ word_number (take n text)
unfolding word_number
number_of_first zero m text within small = omega arith
number_of_first (suc n) zero text within small = omega (arith, within)
number_of_first (suc n) (suc m) [] within small = omega arith
number_of_first (suc n) (suc m) (b ∷ text) within small =
    let rest = number_of_first n m text (omega (arith, within)) (λ i. small (suc i)) in
    let power : 256 ^ suc n ≡ 256 * 256 ^ n = omega (arith, pow-suc 256 n) in
    rw power (low b (word_number (take m text)) (256 ^ n) (small 0) ∙ ap (λ k. b + 256 * k) rest)
  where
    low : (b m p : ℕ) → b < 256 → (b + 256 * m) % (256 * p) ≡ b + 256 * (m % p)
    low b m p h = grind (arith, h)

-- the first bytes of a number, by their mask
pub number_masked : (len number : ℕ) (text : Text) → len < 9 → ((i : ℕ) → get_or text i 0 < 256) → number ≡ word_number (take 8 text) → bit_and number (get_or MASKS len 0) ≡ word_number (take len text)
number_masked len number text short small is =
    let mask : get_or MASKS len 0 ≡ 2 ^ (8 * len) - 1 = eqb-true _ _ (agree_below_at (λ n. nat_eq (get_or MASKS n 0) (2 ^ (8 * n) - 1)) (λ n. true) 9 len refl short) in
    let power : 2 ^ (8 * len) ≡ 256 ^ len = eqb-true _ _ (agree_below_at (λ n. nat_eq (2 ^ (8 * n)) (256 ^ n)) (λ n. true) 9 len refl short) in
    rw (mask, is) (and_mask (word_number (take 8 text)) (8 * len) ∙ ap (λ n. word_number (take 8 text) % n) power ∙ number_of_first len 8 text (omega (arith, short)) small)

-- the word of a number, of so many bytes at most
abbrev pub word_of : ℕ → ℕ → Text
word_of zero number = []
word_of (suc n) number = if nat_eq number 0 then [] else number % 256 ∷ word_of n (number / 256)

pub in_name_byte : (b : ℕ) → is_in_name b ≡ true → (0 < b) × (b < 256)
in_name_byte b h = grind (arith, nat_tests, h)

-- a name is the word of its number
pub name_of_number : (n : ℕ) (name : Text) → length name ≤ n → list_all is_in_name name ≡ true → word_of n (word_number name) ≡ name
unfolding word_number
name_of_number zero [] within letters = refl
name_of_number zero (b ∷ name) within letters = absurd (omega (arith, within))
name_of_number (suc n) [] within letters = refl
name_of_number (suc n) (b ∷ name) within letters =
    let parts = and_parts (is_in_name b) (list_all is_in_name name) letters in
    let byte = in_name_byte b parts.0 in
    let some : nat_eq (b + 256 * word_number name) 0 ≡ false = grind (arith, nat_tests, byte.0) in
    let first : (b + 256 * word_number name) % 256 ≡ b = omega (arith, byte.1) in
    let rest : (b + 256 * word_number name) / 256 ≡ word_number name = omega (arith, byte.1) in
    rw (some, first, rest, name_of_number n name (omega (arith, within)) parts.1) refl
