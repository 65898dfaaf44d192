-- The numbers at the front of a text.
use Rattle.std.proofs.Common.{◌≡◌, ◌≢◌, ℕ, zero, suc, ◌+◌, ◌*◌, ◌≤◌, Bool, true, false, [], ◌∷◌, drop, refl, ap, sym, ◌∙◌, cond, ◌&&◌, ◌||◌, not, List, ◌<◌, ◌==◌, nat_eq, Option, Some, None, ◌⊎◌, inl, inr, arith, one-add, get_or}
use Rattle.std.proofs.lemmas.Bool.{eqb-true, not-true, and_parts, agree_below, both_ways}
use Rattle.std.specs.Char.{is_ascii_digit, is_ascii_hexdigit}
use Rattle.std.specs.List.{prefix_len, list_all}
use Rattle.std.specs.Option.{option_or}
use Rattle.starlark_grammar.specs.Words.{Text, class_in, language, openers, line_ends, symbols, names, patterns, is_name_start, numbers, based, has_base, is_octal_digit, is_binary_digit, begins, is_run, sign_len, is_sign, unsigned, is_exponent_letter, is_exponent, after_digits, ends_float, is_point, is_fraction, makes_float}
use Rattle.starlark_grammar.specs.declared.class.Class.{Class}
use Rattle.starlark_grammar.specs.declared.class.Class.TheVariants.{Decimal, Hexadecimal, Octal, Binary, Float}
use Rattle.starlark_grammar.specs.Front.{longest_front, language_front}
use Rattle.starlark_grammar.specs.Lengths.{longest_len}
use Rattle.starlark_words.specs.Inner.ScannedWords.{begins_number, is_digit_alone, may_be_in_number}
use Rattle.starlark_grammar.proofs.Words.Tables.{class_in-language}
use Rattle.starlark_words.proofs.Scan.Listed.{all_pass, lookup_fails, begins_otherwise, lookup_elsewhere, each_byte, implied}
use Rattle.starlark_words.proofs.Scan.Residuals.{front_next, front_some, longer_by, or_empty, if_some, if_passes, front_on, front_first, front_same, front_never, front_end, front_into, front_of_some, front_of_test, len_of_test, longer_by_none, front_run, front_on_longest}

-- no word goes on with the text's first byte
pub len_never : (test : Text → Bool) (b : ℕ) (rest : Text) → ((word : Text) → test (b ∷ word) ≡ false) → longest_len test (b ∷ rest) ≡ 0
len_never test b rest h =
    len_of_test {C = ℕ} 0 test (b ∷ rest) 0 (rw (front_first (if_passes {C = ℕ} 0 test) b rest, front_never (λ word. if_passes {C = ℕ} 0 test (b ∷ word)) rest (λ word. rw (h word) refl)) refl)

pub len_nothing : (test : Text → Bool) → longest_len test [] ≡ 0
unfolding longest_len longest_front
len_nothing test = refl

-- two tests that agree on the words with the text's first byte
pub front_alike : {C : Type 0} (class_of other : Text → Option C) (b : ℕ) (rest : Text) → ((word : Text) → class_of (b ∷ word) ≡ other (b ∷ word)) → longest_front class_of (b ∷ rest) ≡ longest_front other (b ∷ rest)
front_alike class_of other b rest h = rw (front_first class_of b rest, front_first other b rest, front_same (λ word. class_of (b ∷ word)) (λ word. other (b ∷ word)) rest h) refl

pub len_alike : (test other : Text → Bool) (b : ℕ) (rest : Text) → ((word : Text) → test (b ∷ word) ≡ other (b ∷ word)) → longest_len test (b ∷ rest) ≡ longest_len other (b ∷ rest)
len_alike test other b rest h =
    len_of_test {C = ℕ} 0 test (b ∷ rest) (longest_len other (b ∷ rest))
    (front_alike (if_passes {C = ℕ} 0 test) (if_passes {C = ℕ} 0 other) b rest (λ word. rw (h word) refl) ∙ front_of_test {C = ℕ} 0 other (b ∷ rest))

-- no exponent without its letter
pub exponent_none : (text : Text) → begins is_exponent_letter text ≡ false → longest_len is_exponent text ≡ 0
exponent_none [] h = len_nothing is_exponent
exponent_none (b ∷ rest) h = len_never is_exponent b rest (λ word. rw h refl)

-- the length of an exponent from those of its sign and its digits
abbrev pub exponent_of : ℕ → ℕ → ℕ
exponent_of sign zero = 0
exponent_of sign (suc digits) = suc (sign + suc digits)

pub exponent_of_some : (sign digits : ℕ) → digits ≢ 0 → exponent_of sign digits ≡ 1 + sign + digits
exponent_of_some sign zero other = absurd (other refl)
exponent_of_some sign (suc digits) other = omega arith

power_front : (text : Text) → front_on (if_passes {C = ℕ} 0 (λ word. is_run is_ascii_digit (unsigned word))) text ≡ longer_by (sign_len text) (if_some {C = ℕ} 0 (prefix_len is_ascii_digit (unsigned text)))
power_front [] = front_end (if_passes {C = ℕ} 0 (λ word. is_run is_ascii_digit (unsigned word)))
power_front (b ∷ rest) = go (is_sign b) refl
  where
    power : Text → Option ℕ
    power = if_passes {C = ℕ} 0 (λ word. is_run is_ascii_digit (unsigned word))

    digits : Text → Option ℕ
    digits = if_passes {C = ℕ} 0 (is_run is_ascii_digit)

    go : (signed : Bool) → is_sign b ≡ signed → front_on power (b ∷ rest) ≡ longer_by (sign_len (b ∷ rest)) (if_some {C = ℕ} 0 (prefix_len is_ascii_digit (unsigned (b ∷ rest))))
    go true e = rw (front_into power digits b rest (λ word. rw e refl) refl, front_of_some {C = ℕ} is_ascii_digit 0 rest, e) refl
    go false e =
        rw (front_on_longest power (b ∷ rest), front_alike power digits b rest (λ word. rw e refl), ← front_on_longest digits (b ∷ rest), front_of_some {C = ℕ} is_ascii_digit 0 (b ∷ rest), e)
        (sym (longer_by_none (if_some {C = ℕ} 0 (prefix_len is_ascii_digit (b ∷ rest)))))

pub exponent_some : (text : Text) → begins is_exponent_letter text ≡ true → longest_len is_exponent text ≡ exponent_of (sign_len (drop 1 text)) (prefix_len is_ascii_digit (unsigned (drop 1 text)))
exponent_some [] h = cc
exponent_some (b ∷ rest) h =
    len_of_test {C = ℕ} 0 is_exponent (b ∷ rest) (exponent_of (sign_len rest) (prefix_len is_ascii_digit (unsigned rest)))
    (rw (front_first (if_passes {C = ℕ} 0 is_exponent) b rest, front_same (λ word. if_passes {C = ℕ} 0 is_exponent (b ∷ word)) (if_passes {C = ℕ} 0 (λ word. is_run is_ascii_digit (unsigned word))) rest (λ word. rw h refl), power_front rest)
    (go (sign_len rest) (prefix_len is_ascii_digit (unsigned rest))))
  where
    plain : ℕ → Option (ℕ × ℕ)
    plain n = Some (0, n)

    go : (sign digits : ℕ) → longer_by 1 (longer_by sign (if_some {C = ℕ} 0 digits)) ≡ if_some {C = ℕ} 0 (exponent_of sign digits)
    go sign zero = refl
    go sign (suc digits) = ap plain (omega arith)

-- what stands after the digits begins with none
no_more_digits : (text : Text) → begins is_ascii_digit (after_digits text) ≡ false
no_more_digits [] = refl
no_more_digits (b ∷ rest) = go (is_ascii_digit b) refl (no_more_digits rest)
  where
    go : (digit : Bool) → is_ascii_digit b ≡ digit → begins is_ascii_digit (after_digits rest) ≡ false → begins is_ascii_digit (after_digits (b ∷ rest)) ≡ false
    go true e more = rw (e, one-add) more
    go false e more = rw (e, e) refl

-- AfterComments digits: a class for the digits alone, and one for digits and what follows them.
module _ {C : Type 0} (alone with_end : C) (ends : Text → Bool) where
  digits_and_end : Text → Option C
  digits_and_end word = cond (list_all is_ascii_digit word) (Some alone) (if_passes with_end ends (after_digits word))

  -- the class of digits with an end of so many bytes, perhaps none
  abbrev pub ended : ℕ → Option (C × ℕ)
  ended zero = Some (alone, 0)
  ended (suc n) = Some (with_end, suc n)

  pub front_after_digits : (text : Text) → front_on (λ word. cond (list_all is_ascii_digit word) (Some alone) (if_passes with_end ends (after_digits word))) text
      ≡ longer_by (prefix_len is_ascii_digit text) (ended (longest_len ends (after_digits text)))
  unfolding digits_and_end
  front_after_digits text =
      front_run is_ascii_digit digits_and_end text (λ b word e. rw (e, one-add) refl)
      ∙ ap (longer_by (prefix_len is_ascii_digit text)) (at_end (after_digits text) (no_more_digits text))
    where
      chosen : (n : ℕ) → option_or (if_some with_end n) (Some (alone, 0)) ≡ ended n
      chosen zero = refl
      chosen (suc n) = refl

      at_end : (rest : Text) → begins is_ascii_digit rest ≡ false → front_on digits_and_end rest ≡ ended (longest_len ends rest)
      at_end [] e = rw (front_end digits_and_end, len_nothing ends) refl
      at_end (b ∷ rest) e =
          rw (front_on_longest digits_and_end (b ∷ rest), front_alike digits_and_end (if_passes with_end ends) b rest (λ word. rw e refl), front_of_test with_end ends (b ∷ rest))
          (chosen (longest_len ends (b ∷ rest)))

-- no fraction without its point
pub fraction_none : (text : Text) → begins is_point text ≡ false → longest_len is_fraction text ≡ 0
fraction_none [] h = len_nothing is_fraction
fraction_none (b ∷ rest) h = len_never is_fraction b rest (λ word. rw h refl)

-- a float may end with nothing or an exponent
ended_plain : (n : ℕ) → ended {C = ℕ} 0 0 is_exponent n ≡ Some (0, n)
ended_plain zero = refl
ended_plain (suc n) = refl

pub fraction_some : (text : Text) → begins is_point text ≡ true
    → longest_len is_fraction text ≡ suc (prefix_len is_ascii_digit (drop 1 text) + longest_len is_exponent (after_digits (drop 1 text)))
fraction_some [] h = cc
fraction_some (b ∷ rest) h =
    len_of_test {C = ℕ} 0 is_fraction (b ∷ rest) (suc (prefix_len is_ascii_digit rest + longest_len is_exponent (after_digits rest)))
    (rw (front_first (if_passes {C = ℕ} 0 is_fraction) b rest, front_same (λ word. if_passes {C = ℕ} 0 is_fraction (b ∷ word)) fraction rest same, front_after_digits {C = ℕ} 0 0 is_exponent rest, ended_plain (longest_len is_exponent (after_digits rest)))
    (ap plain (omega arith)))
  where
    fraction : Text → Option ℕ
    fraction word = cond (list_all is_ascii_digit word) (Some 0) (if_passes {C = ℕ} 0 is_exponent (after_digits word))

    plain : ℕ → Option (ℕ × ℕ)
    plain n = Some (0, n)

    all_digits : (word : Text) → cond (ends_float (after_digits word)) (Some 0) None ≡ fraction word
    all_digits [] = refl
    all_digits (c ∷ word) = go (is_ascii_digit c) refl (all_digits word)
      where
        go : (digit : Bool) → is_ascii_digit c ≡ digit → cond (ends_float (after_digits word)) (Some 0) None ≡ fraction word → cond (ends_float (after_digits (c ∷ word))) (Some 0) None ≡ fraction (c ∷ word)
        go true e more = rw (e, one-add) more
        go false e more = rw e refl

    same : (word : Text) → if_passes {C = ℕ} 0 is_fraction (b ∷ word) ≡ fraction word
    same word = rw h (all_digits word)

-- the first of two lengths that isn't 0
abbrev pub first_some : ℕ → ℕ → ℕ
first_some zero n = n
first_some (suc m) n = suc m

pub float_end : (text : Text) → longest_len makes_float text ≡ first_some (longest_len is_fraction text) (longest_len is_exponent text)
float_end [] = rw (len_nothing makes_float, len_nothing is_fraction, len_nothing is_exponent) refl
float_end (b ∷ rest) = go (b == 46) refl
  where
    or_false : (x : Bool) → (x || false) ≡ x
    or_false true = refl
    or_false false = refl

    same : (n : ℕ) → n ≡ first_some n 0
    same zero = refl
    same (suc n) = refl

    go : (point : Bool) → (b == 46) ≡ point → longest_len makes_float (b ∷ rest) ≡ first_some (longest_len is_fraction (b ∷ rest)) (longest_len is_exponent (b ∷ rest))
    go true e =
        let same_byte : b ≡ 46 = eqb-true b 46 e in
        let no_exponent : longest_len is_exponent (b ∷ rest) ≡ 0 = rw same_byte (exponent_none (46 ∷ rest) refl) in
        let fraction : longest_len makes_float (b ∷ rest) ≡ longest_len is_fraction (b ∷ rest) = rw same_byte (len_alike makes_float is_fraction 46 rest (λ word. or_false (ends_float (after_digits word)))) in
        rw (fraction, no_exponent) (same (longest_len is_fraction (b ∷ rest)))
    go false e = rw (fraction_none (b ∷ rest) e, len_alike makes_float is_exponent b rest (λ word. rw e refl)) refl

-- two classifiers that agree on the empty word, and on the words with the text's first byte
pub front_on_alike : {C : Type 0} (class_of other : Text → Option C) (b : ℕ) (rest : Text) → ((word : Text) → class_of (b ∷ word) ≡ other (b ∷ word)) → class_of [] ≡ other [] → front_on class_of (b ∷ rest) ≡ front_on other (b ∷ rest)
front_on_alike class_of other b rest h empty = rw (front_on_longest class_of (b ∷ rest), front_on_longest other (b ∷ rest), front_alike class_of other b rest h, empty) refl

-- digits, perhaps with what makes them a float
abbrev pub decimal_or_float : Text → Option Class
decimal_or_float word = cond (list_all is_ascii_digit word) (Some Decimal) (if_passes Float makes_float (after_digits word))

-- so many digits, and so many bytes that make them a float
abbrev pub digits_front : ℕ → ℕ → Option (Class × ℕ)
digits_front digits zero = Some (Decimal, digits)
digits_front digits (suc n) = Some (Float, digits + suc n)

pub digits_only : (digits n : ℕ) → n ≡ 0 → digits_front digits n ≡ Some (Decimal, digits + n)
digits_only digits zero e = ap (λ n. Some (Decimal, n)) (omega arith)
digits_only digits (suc n) e = cc

pub digits_and_more : (digits n : ℕ) → n ≢ 0 → digits_front digits n ≡ Some (Float, digits + n)
digits_and_more digits zero other = absurd (other refl)
digits_and_more digits (suc n) other = refl

-- what the numbers that begin with a digit come to
abbrev pub number_front : Text → Option (Class × ℕ)
number_front text = option_or (longest_front (class_in based) text) (digits_front (prefix_len is_ascii_digit text) (longest_len makes_float (after_digits text)))

longer_digits : (digits n : ℕ) → longer_by 1 (longer_by digits (ended Decimal Float makes_float n)) ≡ digits_front (suc digits) n
longer_digits digits zero = ap (λ n. Some (Decimal, n)) (omega arith)
longer_digits digits (suc n) = ap (λ n. Some (Float, n)) (omega arith)

-- no base stands at the front
IsPlain : Text → Type 0
IsPlain text = (has_base 120 88 text ≡ false) × (has_base 111 79 text ≡ false) × (has_base 98 66 text ≡ false)

module _ (b : ℕ) (digit : is_ascii_digit b ≡ true) (no_point : (b == 46) ≡ false) where
  digits_alone : class_in numbers (b ∷ []) ≡ Some Decimal
  unfolding class_in
  digits_alone = rw digit refl

  base_alone : class_in based (b ∷ []) ≡ None
  unfolding class_in
  base_alone = refl

  plain_number : (l : ℕ) (word : Text) → IsPlain (b ∷ l ∷ word) → class_in numbers (b ∷ l ∷ word) ≡ decimal_or_float (l ∷ word)
  unfolding class_in IsPlain
  plain_number l word plain = rw (plain.0, plain.1, plain.2, digit, no_point, one-add) refl

  plain_based : (l : ℕ) (word : Text) → IsPlain (b ∷ l ∷ word) → class_in based (b ∷ l ∷ word) ≡ None
  unfolding class_in IsPlain
  plain_based l word plain = rw (plain.0, plain.1, plain.2) refl

  one_more : (text : Text) → digits_front (suc (prefix_len is_ascii_digit text)) (longest_len makes_float (after_digits text))
      ≡ digits_front (prefix_len is_ascii_digit (b ∷ text)) (longest_len makes_float (after_digits (b ∷ text)))
  one_more text = rw (digit, one-add) refl

  number_plain : (l : ℕ) (rest : Text) → ((word : Text) → IsPlain (b ∷ l ∷ word)) → longest_front (class_in numbers) (b ∷ l ∷ rest) ≡ number_front (b ∷ l ∷ rest)
  number_plain l rest plain =
      front_first (class_in numbers) b (l ∷ rest)
      ∙ ap (longer_by 1) (front_on_alike (λ word. class_in numbers (b ∷ word)) decimal_or_float l rest (λ word. plain_number l word (plain word)) digits_alone ∙ front_after_digits Decimal Float makes_float (l ∷ rest))
      ∙ longer_digits (prefix_len is_ascii_digit (l ∷ rest)) (longest_len makes_float (after_digits (l ∷ rest)))
      ∙ one_more (l ∷ rest)
      ∙ rw no_base refl
    where
      no_base : longest_front (class_in based) (b ∷ l ∷ rest) ≡ None
      no_base = rw (front_first (class_in based) b (l ∷ rest), front_on_alike (λ word. class_in based (b ∷ word)) (λ word. None) l rest (λ word. plain_based l word (plain word)) base_alone, front_never {C = Class} (λ word. None) (l ∷ rest) (λ word. refl)) refl

  number_single : longest_front (class_in numbers) (b ∷ []) ≡ number_front (b ∷ [])
  number_single =
      rw (front_first (class_in numbers) b [], front_first (class_in based) b [], front_end (λ word. class_in numbers (b ∷ word)), front_end (λ word. class_in based (b ∷ word)), digits_alone, base_alone, digit, len_nothing makes_float) refl

-- a base, and digits of it
module _ (class : Class) (test : ℕ → Bool) (letter : ℕ) (known : (word : Text) → class_in numbers (48 ∷ letter ∷ word) ≡ if_passes class (is_run test) word)
    (known_base : (word : Text) → class_in based (48 ∷ letter ∷ word) ≡ if_passes class (is_run test) word) (no_digit : is_ascii_digit letter ≡ false) where
  number_based : (rest : Text) → longest_len makes_float (letter ∷ rest) ≡ 0 → longest_front (class_in numbers) (48 ∷ letter ∷ rest) ≡ number_front (48 ∷ letter ∷ rest)
  number_based rest no_float =
      rw (
        front_first (class_in numbers) 48 (letter ∷ rest),
        front_first (class_in based) 48 (letter ∷ rest),
        front_on_longest (λ word. class_in numbers (48 ∷ word)) (letter ∷ rest),
        front_on_longest (λ word. class_in based (48 ∷ word)) (letter ∷ rest),
        front_first (λ word. class_in numbers (48 ∷ word)) letter rest,
        front_first (λ word. class_in based (48 ∷ word)) letter rest,
        front_same (λ word. class_in numbers (48 ∷ letter ∷ word)) (if_passes class (is_run test)) rest known,
        front_same (λ word. class_in based (48 ∷ letter ∷ word)) (if_passes class (is_run test)) rest known_base,
        front_of_some test class rest,
        no_digit,
        digits_alone 48 refl refl,
        base_alone 48 refl refl,
        no_float,
      )
      (go (prefix_len test rest))
    where
      go : (n : ℕ) → longer_by 1 (option_or (longer_by 1 (if_some class n)) (Some (Decimal, 0))) ≡ option_or (longer_by 1 (option_or (longer_by 1 (if_some class n)) None)) (Some (Decimal, 1))
      go zero = refl
      go (suc n) = refl

and_three : (x y z : Bool) → (x && (y || z)) ≡ true → (x ≡ true) × ((y ≡ true) ⊎ (z ≡ true))
and_three true true z e = (refl, inl refl)
and_three true false true e = (refl, inr refl)
and_three true false false e = cc
and_three false y z e = cc

-- the longest number that begins with two bytes
abbrev pub Claim : Text → ℕ → ℕ → Type 0
Claim rest b l = longest_front (class_in numbers) (b ∷ l ∷ rest) ≡ number_front (b ∷ l ∷ rest)

hexadecimal_claim : (rest : Text) (l : ℕ) → ((l == 120) ≡ true) ⊎ ((l == 88) ≡ true) → Claim rest 48 l
unfolding class_in
hexadecimal_claim rest l (inl e) = rw (eqb-true l 120 e) (number_based Hexadecimal is_ascii_hexdigit 120 (λ word. refl) (λ word. refl) refl rest (len_never makes_float 120 rest (λ word. refl)))
hexadecimal_claim rest l (inr e) = rw (eqb-true l 88 e) (number_based Hexadecimal is_ascii_hexdigit 88 (λ word. refl) (λ word. refl) refl rest (len_never makes_float 88 rest (λ word. refl)))

octal_claim : (rest : Text) (l : ℕ) → ((l == 111) ≡ true) ⊎ ((l == 79) ≡ true) → Claim rest 48 l
unfolding class_in
octal_claim rest l (inl e) = rw (eqb-true l 111 e) (number_based Octal is_octal_digit 111 (λ word. refl) (λ word. refl) refl rest (len_never makes_float 111 rest (λ word. refl)))
octal_claim rest l (inr e) = rw (eqb-true l 79 e) (number_based Octal is_octal_digit 79 (λ word. refl) (λ word. refl) refl rest (len_never makes_float 79 rest (λ word. refl)))

binary_claim : (rest : Text) (l : ℕ) → ((l == 98) ≡ true) ⊎ ((l == 66) ≡ true) → Claim rest 48 l
unfolding class_in
binary_claim rest l (inl e) = rw (eqb-true l 98 e) (number_based Binary is_binary_digit 98 (λ word. refl) (λ word. refl) refl rest (len_never makes_float 98 rest (λ word. refl)))
binary_claim rest l (inr e) = rw (eqb-true l 66 e) (number_based Binary is_binary_digit 66 (λ word. refl) (λ word. refl) refl rest (len_never makes_float 66 rest (λ word. refl)))

-- Of the numbers that begin with a digit.
pub number_from_digit : (b : ℕ) (rest : Text) → is_ascii_digit b ≡ true → (b == 46) ≡ false → longest_front (class_in numbers) (b ∷ rest) ≡ number_front (b ∷ rest)
unfolding IsPlain
number_from_digit b [] digit no_point = number_single b digit no_point
number_from_digit b (l ∷ rest) digit no_point = go (has_base 120 88 (b ∷ l ∷ rest)) (has_base 111 79 (b ∷ l ∷ rest)) (has_base 98 66 (b ∷ l ∷ rest)) refl refl refl
  where
    by_letter : (lower upper : ℕ) → ((letter : ℕ) → ((letter == lower) ≡ true) ⊎ ((letter == upper) ≡ true) → Claim rest 48 letter) → has_base lower upper (b ∷ l ∷ rest) ≡ true → Claim rest b l
    by_letter lower upper claim e =
        let parts = and_three (b == 48) (l == lower) (l == upper) e in
        rw (eqb-true b 48 parts.0) (claim l parts.1)

    go : (x o y : Bool) → has_base 120 88 (b ∷ l ∷ rest) ≡ x → has_base 111 79 (b ∷ l ∷ rest) ≡ o → has_base 98 66 (b ∷ l ∷ rest) ≡ y → Claim rest b l
    go true o y e f g = by_letter 120 88 (hexadecimal_claim rest) e
    go false true y e f g = by_letter 111 79 (octal_claim rest) f
    go false false true e f g = by_letter 98 66 (binary_claim rest) g
    go false false false e f g = number_plain b digit no_point l rest (λ word. (e, f, g))

-- Of the numbers that begin with a point and a digit, by the whole language.
is_no_pointed : Text → Bool
is_no_pointed (b ∷ c ∷ word) = not (b == 46 && is_ascii_digit c)
is_no_pointed word = true

pointed_class : (d : ℕ) (word : Text) → is_ascii_digit d ≡ true → class_in language (46 ∷ d ∷ word) ≡ if_passes Float is_fraction (46 ∷ d ∷ word)
unfolding class_in patterns openers line_ends symbols names is_no_pointed
pointed_class d word digit =
    class_in-language (46 ∷ d ∷ word)
    ∙ rw (lookup_elsewhere 46 (d ∷ word) openers refl, lookup_elsewhere 46 (d ∷ word) line_ends refl, lookup_fails is_no_pointed (46 ∷ d ∷ word) symbols refl (ap not digit), lookup_elsewhere 46 (d ∷ word) names refl, digit)
    (go _)
  where
    go : (x : Bool) → cond (x && true) (Some Float) None ≡ cond x (Some Float) None
    go true = refl
    go false = refl

pointed_front : (d : ℕ) (rest : Text) → is_ascii_digit d ≡ true → language_front (46 ∷ d ∷ rest) ≡ if_some Float (longest_len is_fraction (46 ∷ d ∷ rest))
unfolding language_front
pointed_front d rest digit =
    two_bytes (class_in language) ∙ ap (longer_by 1) (rw (front_same (λ word. class_in language (46 ∷ d ∷ word)) fraction rest (λ word. pointed_class d word digit)) (go (front_on fraction rest) (class_in language (46 ∷ [])) (front_some fraction rest Float known)))
    ∙ sym (two_bytes (if_passes Float is_fraction)) ∙ front_of_test Float is_fraction (46 ∷ d ∷ rest)
  where
    fraction : Text → Option Class
    fraction word = if_passes Float is_fraction (46 ∷ d ∷ word)

    known : fraction [] ≡ Some Float
    known = rw digit refl

    two_bytes : (class_of : Text → Option Class) → longest_front class_of (46 ∷ d ∷ rest) ≡ longer_by 1 (or_empty (front_on (λ word. class_of (46 ∷ d ∷ word)) rest) (class_of (46 ∷ [])))
    two_bytes class_of = front_first class_of 46 (d ∷ rest) ∙ ap (longer_by 1) (front_next (λ word. class_of (46 ∷ word)) d rest)

    go : (more : Option (Class × ℕ)) (alone : Option Class) → (more ≡ None → ⊥) → or_empty more alone ≡ or_empty more (Some Float)
    go None alone some = absurd (some refl)
    go (Some front) alone some = refl

-- the words of the language that begin with a digit are the numbers
digit_class : (b : ℕ) (word : Text) → b < 256 → is_ascii_digit b ≡ true → class_in language (b ∷ word) ≡ class_in numbers (b ∷ word)
unfolding class_in patterns openers line_ends symbols names
digit_class b word small digit =
    class_in-language (b ∷ word)
    ∙ rw (
      lookup_elsewhere b word openers (no_row openers refl),
      lookup_elsewhere b word line_ends (no_row line_ends refl),
      lookup_elsewhere b word symbols (no_row symbols refl),
      lookup_elsewhere b word names (no_row names refl),
      no_byte (λ b. nat_eq 32 b) refl,
      no_byte (λ b. b == 35) refl,
      no_byte (λ b. nat_eq 9 b) refl,
      no_byte is_name_start refl,
    ) refl
  where
    no_row : (rows : List (Text × Class)) → agree_below (λ b. not (is_ascii_digit b) || all_pass (begins_otherwise b) rows) (λ _. true) 256 ≡ true → all_pass (begins_otherwise b) rows ≡ true
    no_row rows h = implied _ _ (each_byte (λ b. not (is_ascii_digit b) || all_pass (begins_otherwise b) rows) b h small) digit

    no_byte : (test : ℕ → Bool) → agree_below (λ b. not (is_ascii_digit b) || not (test b)) (λ _. true) 256 ≡ true → test b ≡ false
    no_byte test h = not-true _ (implied _ _ (each_byte (λ b. not (is_ascii_digit b) || not (test b)) b h small) digit)

digit_is_no_point : (b : ℕ) → b < 256 → is_ascii_digit b ≡ true → (b == 46) ≡ false
digit_is_no_point b small digit = not-true _ (implied _ _ (each_byte (λ b. not (is_ascii_digit b) || not (b == 46)) b refl small) digit)

digit_front : (b : ℕ) (rest : Text) → b < 256 → is_ascii_digit b ≡ true → language_front (b ∷ rest) ≡ number_front (b ∷ rest)
unfolding language_front
digit_front b rest small digit =
    front_alike (class_in language) (class_in numbers) b rest (λ word. digit_class b word small digit)
    ∙ number_from_digit b rest digit (digit_is_no_point b small digit)

point_front : (d : ℕ) (rest : Text) → is_ascii_digit d ≡ true → language_front (46 ∷ d ∷ rest) ≡ number_front (46 ∷ d ∷ rest)
unfolding class_in
point_front d rest digit =
    rw (
      pointed_front d rest digit,
      front_first (class_in based) 46 (d ∷ rest),
      front_never (λ word. class_in based (46 ∷ word)) (d ∷ rest) (λ word. no_base word),
      float_end (46 ∷ d ∷ rest),
      fraction_some (46 ∷ d ∷ rest) refl,
    ) (ap (λ n. Some (Float, n)) (omega arith))
  where
    no_base : (word : Text) → class_in based (46 ∷ word) ≡ None
    no_base [] = refl
    no_base (c ∷ word) = refl

-- The number that stands at the front of a text that begins with one.
pub number_language : (text : Text) → ((b : ℕ) (rest : Text) → text ≡ b ∷ rest → b < 256) → begins_number text ≡ true → language_front text ≡ number_front text
number_language [] small h = cc
number_language (b ∷ []) small h = digit_front b [] (small b [] refl) h
number_language (b ∷ c ∷ rest) small h = go (is_ascii_digit b) refl h
  where
    go : (digit : Bool) → is_ascii_digit b ≡ digit → (digit || (b == 46 && is_ascii_digit c)) ≡ true → language_front (b ∷ c ∷ rest) ≡ number_front (b ∷ c ∷ rest)
    go true e h = digit_front b (c ∷ rest) (small b (c ∷ rest) refl) e
    go false e h = let parts = and_parts (b == 46) (is_ascii_digit c) h in rw (eqb-true b 46 parts.0) (point_front c rest parts.1)

-- a number has a digit, or a point and a digit
pub number_is_long : (text : Text) → begins_number text ≡ true → 2 ≤ 2 * prefix_len is_ascii_digit text + longest_len makes_float (after_digits text)
number_is_long [] h = cc
number_is_long (b ∷ []) h = let one : prefix_len is_ascii_digit (b ∷ []) ≡ 1 = rw h refl in omega (arith, one)
number_is_long (b ∷ c ∷ rest) h = go (is_ascii_digit b) refl h
  where
    go : (digit : Bool) → is_ascii_digit b ≡ digit → (digit || (b == 46 && is_ascii_digit c)) ≡ true
        → 2 ≤ 2 * prefix_len is_ascii_digit (b ∷ c ∷ rest) + longest_len makes_float (after_digits (b ∷ c ∷ rest))
    go true e h = let some : prefix_len is_ascii_digit (b ∷ c ∷ rest) ≡ 1 + prefix_len is_ascii_digit (c ∷ rest) = rw e refl in omega (arith, some)
    go false e h =
        let parts = and_parts (b == 46) (is_ascii_digit c) h in
        let none : prefix_len is_ascii_digit (b ∷ c ∷ rest) ≡ 0 = rw e refl in
        let digits : prefix_len is_ascii_digit (c ∷ rest) ≡ 1 + prefix_len is_ascii_digit rest = rw parts.1 refl in
        let float : longest_len makes_float (b ∷ c ∷ rest) ≡ suc (prefix_len is_ascii_digit (c ∷ rest) + longest_len is_exponent (after_digits (c ∷ rest))) =
        float_end (b ∷ c ∷ rest) ∙ rw (fraction_some (b ∷ c ∷ rest) parts.0) refl in
        rw none (omega (arith, digits, float))

-- so many digits of a base, after the two bytes that say which
abbrev pub if_based : Class → ℕ → Option (Class × ℕ)
if_based class zero = None
if_based class (suc digits) = Some (class, suc digits + 2)

module _ (class : Class) (test : ℕ → Bool) (letter : ℕ) (known : (word : Text) → class_in based (48 ∷ letter ∷ word) ≡ if_passes class (is_run test) word) where
  base_digits : (rest : Text) → longest_front (class_in based) (48 ∷ letter ∷ rest) ≡ if_based class (prefix_len test rest)
  base_digits rest =
      rw (
        front_first (class_in based) 48 (letter ∷ rest),
        front_on_longest (λ word. class_in based (48 ∷ word)) (letter ∷ rest),
        front_first (λ word. class_in based (48 ∷ word)) letter rest,
        front_same (λ word. class_in based (48 ∷ letter ∷ word)) (if_passes class (is_run test)) rest known,
        front_of_some test class rest,
        base_alone 48 refl refl,
      )
      (go (prefix_len test rest))
    where
      go : (n : ℕ) → longer_by 1 (option_or (longer_by 1 (if_some class n)) None) ≡ if_based class n
      go zero = refl
      go (suc n) = ap (λ m. Some (class, m)) (omega arith)

-- the digits after a base
abbrev pub BaseClaim : ℕ → ℕ → Class → (ℕ → Bool) → Type 0
BaseClaim lower upper class test = (text : Text) → has_base lower upper text ≡ true → longest_front (class_in based) text ≡ if_based class (prefix_len test (drop 2 text))

by_letters : (lower upper : ℕ) (class : Class) (test : ℕ → Bool) → ((rest : Text) → longest_front (class_in based) (48 ∷ lower ∷ rest) ≡ if_based class (prefix_len test rest))
    → ((rest : Text) → longest_front (class_in based) (48 ∷ upper ∷ rest) ≡ if_based class (prefix_len test rest)) → BaseClaim lower upper class test
by_letters lower upper class test at_lower at_upper [] h = cc
by_letters lower upper class test at_lower at_upper (b ∷ []) h = cc
by_letters lower upper class test at_lower at_upper (b ∷ l ∷ rest) h =
    let parts = and_three (b == 48) (l == lower) (l == upper) h in
    rw (eqb-true b 48 parts.0) (go parts.1)
  where
    go : ((l == lower) ≡ true) ⊎ ((l == upper) ≡ true) → longest_front (class_in based) (48 ∷ l ∷ rest) ≡ if_based class (prefix_len test rest)
    go (inl e) = rw (eqb-true l lower e) (at_lower rest)
    go (inr e) = rw (eqb-true l upper e) (at_upper rest)

pub hexadecimal_base : BaseClaim 120 88 Hexadecimal is_ascii_hexdigit
unfolding class_in
hexadecimal_base = by_letters 120 88 Hexadecimal is_ascii_hexdigit (base_digits Hexadecimal is_ascii_hexdigit 120 (λ word. refl)) (base_digits Hexadecimal is_ascii_hexdigit 88 (λ word. refl))

pub octal_base : BaseClaim 111 79 Octal is_octal_digit
unfolding class_in
octal_base = by_letters 111 79 Octal is_octal_digit (base_digits Octal is_octal_digit 111 (λ word. refl)) (base_digits Octal is_octal_digit 79 (λ word. refl))

pub binary_base : BaseClaim 98 66 Binary is_binary_digit
unfolding class_in
binary_base = by_letters 98 66 Binary is_binary_digit (base_digits Binary is_binary_digit 98 (λ word. refl)) (base_digits Binary is_binary_digit 66 (λ word. refl))

pub no_base : (text : Text) → has_base 120 88 text ≡ false → has_base 111 79 text ≡ false → has_base 98 66 text ≡ false → longest_front (class_in based) text ≡ None
unfolding class_in longest_front
no_base [] e f g = refl
no_base (b ∷ []) e f g = refl
no_base (b ∷ l ∷ rest) e f g =
    rw (front_first (class_in based) b (l ∷ rest), front_on_alike (λ word. class_in based (b ∷ word)) (λ word. None) l rest (λ word. rw (e, f, g) refl) refl, front_never {C = Class} (λ word. None) (l ∷ rest) (λ word. refl)) refl

-- Where no digit of the base follows, a base is no number.
pub no_based_digits : (text : Text) → (has_base 120 88 text ≡ true → prefix_len is_ascii_hexdigit (drop 2 text) ≡ 0) → (has_base 111 79 text ≡ true → prefix_len is_octal_digit (drop 2 text) ≡ 0)
    → (has_base 98 66 text ≡ true → prefix_len is_binary_digit (drop 2 text) ≡ 0) → longest_front (class_in based) text ≡ None
no_based_digits text hexadecimal octal binary = go (has_base 120 88 text) (has_base 111 79 text) (has_base 98 66 text) refl refl refl
  where
    go : (x o y : Bool) → has_base 120 88 text ≡ x → has_base 111 79 text ≡ o → has_base 98 66 text ≡ y → longest_front (class_in based) text ≡ None
    go true o y e f g = hexadecimal_base text e ∙ ap (if_based Hexadecimal) (hexadecimal e)
    go false true y e f g = octal_base text f ∙ ap (if_based Octal) (octal f)
    go false false true e f g = binary_base text g ∙ ap (if_based Binary) (binary g)
    go false false false e f g = no_base text e f g

-- whether three bytes are a base and a digit of it
abbrev pub is_based_digit : (a b c : ℕ) → Bool
is_based_digit a b c = (has_base 120 88 (a ∷ b ∷ []) && is_ascii_hexdigit c) || ((has_base 111 79 (a ∷ b ∷ []) && is_octal_digit c) || (has_base 98 66 (a ∷ b ∷ []) && is_binary_digit c))

pub no_based_digit : (text : Text) → is_based_digit (get_or text 0 0) (get_or text 1 0) (get_or text 2 0) ≡ false → longest_front (class_in based) text ≡ None
no_based_digit text h =
    let one = or_false _ _ h in
    let two = or_false _ _ one.1 in
    no_based_digits text (stops 120 88 is_ascii_hexdigit text one.0) (stops 111 79 is_octal_digit text two.0) (stops 98 66 is_binary_digit text two.1)
  where
    or_false : (x y : Bool) → (x || y) ≡ false → (x ≡ false) × (y ≡ false)
    or_false true y h = cc
    or_false false y h = (refl, h)

    no_digit : (base digit : Bool) → (base && digit) ≡ false → base ≡ true → digit ≡ false
    no_digit true digit h e = h
    no_digit false digit h e = cc

    stops : (lower upper : ℕ) (test : ℕ → Bool) (text : Text) → (has_base lower upper (get_or text 0 0 ∷ get_or text 1 0 ∷ []) && test (get_or text 2 0)) ≡ false → has_base lower upper text ≡ true → prefix_len test (drop 2 text) ≡ 0
    stops lower upper test [] h e = refl
    stops lower upper test (b ∷ []) h e = refl
    stops lower upper test (b ∷ l ∷ []) h e = refl
    stops lower upper test (b ∷ l ∷ d ∷ rest) h e = rw (no_digit _ _ h e) refl

-- the digits after a base whose first digit is one
pub based_digits : (class : Class) (test : ℕ → Bool) (text : Text) (n : ℕ) → n ≡ prefix_len test (drop 2 text) → test 0 ≡ false → test (get_or text 2 0) ≡ true → Some (class, 2 + n) ≡ if_based class n
based_digits class test [] n e none digit = absurd (both_ways _ none digit)
based_digits class test (a ∷ []) n e none digit = absurd (both_ways _ none digit)
based_digits class test (a ∷ b ∷ []) n e none digit = absurd (both_ways _ none digit)
based_digits class test (a ∷ b ∷ c ∷ rest) zero e none digit = let some : 0 ≡ 1 + prefix_len test rest = e ∙ rw digit refl in absurd (omega (arith, some))
based_digits class test (a ∷ b ∷ c ∷ rest) (suc n) e none digit = ap (λ m. Some (class, m)) (omega arith)

-- a digit after which no number goes on

-- a byte that is no digit, no point, and no letter that numbers have
abbrev ends_digit : ℕ → Bool
ends_digit c = not (is_ascii_digit c) && (not (is_point c) && (not (is_exponent_letter c) && (not (c == 120 || c == 88) && (not (c == 111 || c == 79) && not (c == 98 || c == 66)))))

other_ends_digit : (c : ℕ) → c < 256 → may_be_in_number c ≡ false → ends_digit c ≡ true
other_ends_digit c small h = go (may_be_in_number c) h (each_byte (λ c. may_be_in_number c || ends_digit c) c refl small)
  where
    go : (inside : Bool) → inside ≡ false → (inside || ends_digit c) ≡ true → ends_digit c ≡ true
    go true e all = cc
    go false e all = all

lacks_digit : (base digit : Bool) → digit ≡ false → (base && digit) ≡ false
lacks_digit true digit e = e
lacks_digit false digit e = refl

pub front_of_digit : (text : Text) → ((b : ℕ) (rest : Text) → text ≡ b ∷ rest → b < 256) → ((b c : ℕ) (rest : Text) → text ≡ b ∷ c ∷ rest → c < 256) → is_digit_alone text ≡ true → language_front text ≡ Some (Decimal, 1)
front_of_digit [] small next h = cc
front_of_digit (b ∷ []) small next h = number_language (b ∷ []) small h ∙ rw (no_base (b ∷ []) refl refl refl, h, len_nothing makes_float) refl
front_of_digit (b ∷ c ∷ rest) small next h =
    let parts = and_parts _ _ h in
    let digit : is_ascii_digit b ≡ true = parts.0 in
    let one = and_parts _ _ (other_ends_digit c (next b c rest refl) (not-true _ parts.1)) in
    let two = and_parts _ _ one.1 in
    let three = and_parts _ _ two.1 in
    let four = and_parts _ _ three.1 in
    let five = and_parts _ _ four.1 in
    let no_digit : is_ascii_digit c ≡ false = not-true _ one.0 in
    let no_float : longest_len makes_float (c ∷ rest) ≡ 0 = float_end (c ∷ rest) ∙ rw (fraction_none (c ∷ rest) (not-true _ two.0), exponent_none (c ∷ rest) (not-true _ three.0)) refl in
    number_language (b ∷ c ∷ rest) small (rw digit refl)
    ∙ rw (
      no_base (b ∷ c ∷ rest) (lacks_digit (b == 48) _ (not-true _ four.0)) (lacks_digit (b == 48) _ (not-true _ five.0)) (lacks_digit (b == 48) _ (not-true _ five.1)),
      digit,
      no_digit,
      no_float,
    ) refl
