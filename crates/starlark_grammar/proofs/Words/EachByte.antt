-- A test that each byte of a word passes, by the bytes of names and numbers.
use Rattle.std.proofs.Common.{◌≡◌, ℕ, ◌+◌, Bool, true, false, cond, [], ◌∷◌, drop, refl, subst, sym, arith, ◌||◌, one-add}
use Rattle.std.specs.Prelude.{◌&&◌, ◌==◌, if◌then◌else◌}
use Rattle.std.specs.Char.{is_ascii_digit, is_ascii_hexdigit}
use Rattle.std.specs.List.{list_all, prefix_len}
use Rattle.std.proofs.lemmas.Bool.{and_parts, eqb-true}
use Rattle.std.proofs.lemmas.Bool.Decides.{nat_tests}
use Rattle.starlark_grammar.specs.Words.{Text, is_run, is_name_start, is_in_name, is_identifier, is_based, is_octal_digit, is_binary_digit, after_digits, begins_with_digit, is_sign, unsigned, is_exponent, ends_float, is_fraction, is_float, is_pointed}
use Rattle.starlark_grammar.proofs.Words.Classes.{all_more}

-- which digits and letters names have
digit_named : (b : ℕ) → is_ascii_digit b ≡ true → is_in_name b ≡ true
digit_named b h = grind (arith, nat_tests)

pub hexadecimal_named : (b : ℕ) → is_ascii_hexdigit b ≡ true → is_in_name b ≡ true
hexadecimal_named b h = grind (arith, nat_tests)

pub octal_named : (b : ℕ) → is_octal_digit b ≡ true → is_in_name b ≡ true
octal_named b h = grind (arith, nat_tests)

pub binary_named : (b : ℕ) → is_binary_digit b ≡ true → is_in_name b ≡ true
binary_named b h = grind (arith, nat_tests)

start_named : (b : ℕ) → is_name_start b ≡ true → is_in_name b ≡ true
start_named b h = rw h refl

either_named : (b lower upper : ℕ) → is_in_name lower ≡ true → is_in_name upper ≡ true → (b == lower || b == upper) ≡ true → is_in_name b ≡ true
either_named b lower upper h k e = go (b == lower) refl e
  where
    go : (same : Bool) → (b == lower) ≡ same → (same || b == upper) ≡ true → is_in_name b ≡ true
    go true f e = subst (λ c. is_in_name c ≡ true) (sym (eqb-true b lower f)) h
    go false f e = subst (λ c. is_in_name c ≡ true) (sym (eqb-true b upper e)) k

-- a test that the bytes of names and numbers pass
pub record PassesNames (test : ℕ → Bool) : Type 0 where
  pub named : (b : ℕ) → is_in_name b ≡ true → test b ≡ true
  pub signed : (b : ℕ) → is_sign b ≡ true → test b ≡ true
  pub point : test 46 ≡ true

module _ (test : ℕ → Bool) (passes : PassesNames test) where
  digit_passes : (b : ℕ) → is_ascii_digit b ≡ true → test b ≡ true
  digit_passes b h = passes.named b (digit_named b h)

  pub run_passes : (digit : ℕ → Bool) (word : Text) → ((b : ℕ) → digit b ≡ true → test b ≡ true) → is_run digit word ≡ true → list_all test word ≡ true
  run_passes digit [] h k = refl
  run_passes digit (b ∷ bs) h k = all_more digit test (b ∷ bs) h k

  pub digits_pass : (word : Text) → is_run is_ascii_digit word ≡ true → list_all test word ≡ true
  digits_pass word h = run_passes is_ascii_digit word digit_passes h

  pub identifier_passes : (word : Text) → is_identifier word ≡ true → list_all test word ≡ true
  identifier_passes [] h = refl
  identifier_passes (b ∷ bs) h =
      let parts = and_parts (is_name_start b) (list_all is_in_name bs) h in
      rw (passes.named b (start_named b parts.0)) (all_more is_in_name test bs passes.named parts.1)

  pub based_passes : (lower upper : ℕ) (digit : ℕ → Bool) (word : Text) → is_in_name lower ≡ true → is_in_name upper ≡ true → ((b : ℕ) → digit b ≡ true → is_in_name b ≡ true) → is_based lower upper digit word ≡ true → list_all test word ≡ true
  based_passes lower upper digit [] h k m e = refl
  based_passes lower upper digit (z ∷ []) h k m e = cc
  based_passes lower upper digit (z ∷ letter ∷ digits) h k m e =
      let outer = and_parts (z == 48 && (letter == lower || letter == upper)) (is_run digit digits) e in
      let inner = and_parts (z == 48) (letter == lower || letter == upper) outer.0 in
      let zero_passes : test z ≡ true = subst (λ c. test c ≡ true) (sym (eqb-true z 48 inner.0)) (passes.named 48 refl) in
      rw (zero_passes, passes.named letter (either_named letter lower upper h k inner.1)) (run_passes digit digits (λ b p. passes.named b (m b p)) outer.1)

  -- digits in front change nothing
  after_passes : (text : Text) → list_all test (after_digits text) ≡ true → list_all test text ≡ true
  after_passes [] h = refl
  after_passes (b ∷ bs) h = go (is_ascii_digit b) refl h (after_passes bs)
    where
      go : (digit : Bool) → is_ascii_digit b ≡ digit → list_all test (drop (cond digit (1 + prefix_len is_ascii_digit bs) 0) (b ∷ bs)) ≡ true → (list_all test (after_digits bs) ≡ true → list_all test bs ≡ true) → list_all test (b ∷ bs) ≡ true
      go false e h more = h
      go true e h more = rw (digit_passes b e) (more (rw one-add at h))

  exponent_passes : (word : Text) → is_exponent word ≡ true → list_all test word ≡ true
  exponent_passes [] h = refl
  exponent_passes (b ∷ bs) h =
      let parts = and_parts (b == 101 || b == 69) (is_run is_ascii_digit (unsigned bs)) h in
      rw (passes.named b (either_named b 101 69 refl refl parts.0)) (go bs parts.1)
    where
      sign_passes : (c : ℕ) (cs : Text) (sign : Bool) → is_sign c ≡ sign → is_run is_ascii_digit (drop (if sign then 1 else 0) (c ∷ cs)) ≡ true → list_all test (c ∷ cs) ≡ true
      sign_passes c cs false e h = digits_pass (c ∷ cs) h
      sign_passes c cs true e h = rw (passes.signed c e) (digits_pass cs h)

      go : (text : Text) → is_run is_ascii_digit (unsigned text) ≡ true → list_all test text ≡ true
      go [] h = refl
      go (c ∷ cs) h = sign_passes c cs (is_sign c) refl h

  ends_pass : (word : Text) → ends_float word ≡ true → list_all test word ≡ true
  ends_pass [] h = refl
  ends_pass (b ∷ bs) h = exponent_passes (b ∷ bs) h

  fraction_passes : (word : Text) → is_fraction word ≡ true → list_all test word ≡ true
  fraction_passes [] h = refl
  fraction_passes (b ∷ bs) h =
      let parts = and_parts (b == 46) (ends_float (after_digits bs)) h in
      let first : test b ≡ true = subst (λ c. test c ≡ true) (sym (eqb-true b 46 parts.0)) passes.point in
      rw first (after_passes bs (ends_pass (after_digits bs) parts.1))

  pub float_passes : (word : Text) → is_float word ≡ true → list_all test word ≡ true
  float_passes word h =
      let parts = and_parts (begins_with_digit word) (is_fraction (after_digits word) || is_exponent (after_digits word)) h in
      go (is_fraction (after_digits word)) refl parts.1
    where
      go : (fraction : Bool) → is_fraction (after_digits word) ≡ fraction → (fraction || is_exponent (after_digits word)) ≡ true → list_all test word ≡ true
      go true e h = after_passes word (fraction_passes (after_digits word) e)
      go false e h = after_passes word (exponent_passes (after_digits word) h)

  pub pointed_passes : (word : Text) → is_pointed word ≡ true → list_all test word ≡ true
  pointed_passes word h = fraction_passes word (and_parts (is_fraction word) (begins_with_digit (drop 1 word)) h).0
