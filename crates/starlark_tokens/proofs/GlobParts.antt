-- What globs stand for: what follows the first bytes of sets and globs, and ends that fit.
use Rattle.std.proofs.Common.{◌≡◌, ◌≢◌, ◌≤◌, ◌+◌, ◌-◌, ◌∙◌, ℕ, length, zero, suc, arith, Bool, true, false, ◌&&◌, ◌||◌, List, [], ◌∷◌, drop, filter, map, refl, ap, sym, subst, not}
use Rattle.std.specs.Prelude.{◌==◌, if◌then◌else◌, slice_index}
use Rattle.std.proofs.Math.Dec.{eqb-suc-zero}
use Rattle.std.proofs.lemmas.Bool.{eqb-true}
use Rattle.starlark_base.specs.Places.{Text}
use Rattle.starlark_tokens.specs.Files.Globs.{begins_deep, fits, fits_after, fits_first, fits_names, has_after, item_has, item_len, is_negated, part_len, set_len, some_end, takes_first}
use Rattle.starlark_tokens.specs.Inner.GlobAnswers.{IsAnswer, is_fit}
use Rattle.starlark_tokens.specs.declared.files.globs.Answer.{Answer}
use Rattle.starlark_tokens.specs.declared.files.globs.Answer.TheVariants.{Fits, Differs, FitsNoEnd}

-- the items of a set after its first bytes are those of what is left
pub has_rest : (skip : ℕ) (set : Text) (byte : ℕ) → has_after skip set byte ≡ has_after 0 (drop skip set) byte
has_rest zero set byte = refl
has_rest (suc skip) [] byte = refl
has_rest (suc skip) (s ∷ set) byte = has_rest skip set byte

-- the parts of a glob after its first bytes are those of what is left
pub fits_rest : (skip : ℕ) (glob name : Text) → fits_after skip glob name ≡ fits_after 0 (drop skip glob) name
unfolding fits_after
fits_rest zero glob name = refl
fits_rest (suc skip) [] name = refl
fits_rest (suc skip) (g ∷ glob) name = fits_rest skip glob name

drop_one_less : {A : Type 0} (n : ℕ) (x : A) (xs : List A) → 1 ≤ n → drop (n - 1) xs ≡ drop n (x ∷ xs)
drop_one_less zero x xs some = absurd (omega arith)
drop_one_less (suc n) x xs some = ap (λ k. drop k xs) (omega arith)

-- a byte that the first item of a set hasn't is in what is left
pub next_item : (set : Text) (byte len : ℕ) → len ≡ item_len set → 1 ≤ len → item_has set byte ≡ false → has_after 0 (drop len set) byte ≡ has_after 0 set byte
next_item [] byte len is some hasnt = rw is refl
next_item (s ∷ set) byte len is some hasnt =
    rw hasnt (rw (← is) (sym (has_rest (len - 1) set byte ∙ ap (λ left. has_after 0 left byte) (drop_one_less len s set some))))

-- no glob stands for an empty name alone
pub fits_none : (glob name : Text) → true ≡ (length glob == 0) → fits glob name ≡ (length name == 0)
unfolding fits_after
fits_none [] [] none = refl
fits_none [] (byte ∷ name) none = sym (eqb-suc-zero (length name))
fits_none (g ∷ glob) name none = cc (eqb-suc-zero (length glob))

-- globs and the names of a path
pub names_none : (globs names : List Text) → true ≡ (length globs == 0) → fits_names globs names ≡ (length names == 0)
unfolding fits_names
names_none [] [] none = refl
names_none [] (name ∷ names) none = sym (eqb-suc-zero (length names))
names_none (glob ∷ globs) names none = cc (eqb-suc-zero (length globs))

pub names_last : (globs names : List Text) → true ≡ begins_deep globs → length globs ≡ 1 → fits_names globs names ≡ not (length names == 0)
unfolding fits_names
names_last [] names deep one = cc
names_last (glob ∷ []) [] deep one = rw (← deep) refl
names_last (glob ∷ []) (name ∷ names) deep one = rw (← deep, eqb-suc-zero) refl
names_last (glob ∷ other ∷ globs) names deep one = absurd (omega arith)

pub names_deep : (globs names : List Text) → true ≡ begins_deep globs → length globs ≢ 1 → fits_names globs names ≡ some_end (fits_names (drop 1 globs)) names
unfolding fits_names
names_deep [] names deep more = cc
names_deep (glob ∷ []) names deep more = absurd (more refl)
names_deep (glob ∷ other ∷ globs) names deep more = rw (← deep) refl

pub names_part : (globs names : List Text) → false ≡ begins_deep globs → false ≡ (length globs == 0) → fits_names globs names ≡ fits_first globs names && fits_names (drop 1 globs) (drop 1 names)
unfolding fits_names
names_part [] names deep some = cc
names_part (glob ∷ globs) names deep some = rw (← deep) refl

differ : (a b : ℕ) → a ≢ b → (a == b) ≡ false
differ a b other = by (a == b) (λ same. other (eqb-true a b same))
  where
    by : (same : Bool) → same ≢ true → same ≡ false
    by true not_so = absurd (not_so refl)
    by false not_so = refl

-- a `*` stands for any bytes before an end that fits what follows it
pub fits_star : (glob name : Text) → slice_index glob 0 ≡ 42 → fits glob name ≡ some_end (fits (drop 1 glob)) name
unfolding fits_after
fits_star [] name star = cc
fits_star (g ∷ glob) name star = rw star refl

-- a glob stands for a name if its first part does for the first byte, and what is left for what is left
pub fits_part : (glob name : Text) (len : ℕ) → false ≡ (length glob == 0) → slice_index glob 0 ≢ 42 → len ≡ part_len glob → 1 ≤ len
    → fits glob name ≡ takes_first glob name && fits (drop len glob) (drop 1 name)
unfolding fits_after
fits_part [] name len any other is some = cc
fits_part (g ∷ glob) name len any other is some =
    let not_star : (g == 42) ≡ false = differ g 42 other in
    rw not_star (rw (← is) (ap (λ fit. takes_first (g ∷ glob) name && fit) (fits_rest (len - 1) glob (drop 1 name) ∙ ap (λ left. fits_after 0 left (drop 1 name)) (drop_one_less len g glob some))))

-- each part has a byte
pub part_some : (glob : Text) → 1 ≤ part_len glob
part_some [] = omega arith
part_some (g ∷ glob) = by (g == 91) (g == 92) (is_negated glob)
  where
    by : (a b c : Bool) → 1 ≤ (if a then (if c then 3 + set_len (drop 1 glob) else 2 + set_len glob) else (if b then 2 else 1))
    by true b true = omega arith
    by true b false = omega arith
    by false true c = omega arith
    by false false c = omega arith

-- a test of what is made of the elements leaves out the same ones
pub filter_made : {A B : Type 0} (f : A → B) (test : B → Bool) (xs : List A) → map f (filter (λ x. test (f x)) xs) ≡ filter test (map f xs)
filter_made f test [] = refl
filter_made f test (x ∷ xs) = by (test (f x)) (filter_made f test xs)
  where
    by : (b : Bool) → map f (filter (λ x. test (f x)) xs) ≡ filter test (map f xs)
        → map f (if b then x ∷ filter (λ x. test (f x)) xs else filter (λ x. test (f x)) xs) ≡ (if b then f x ∷ filter test (map f xs) else filter test (map f xs))
    by true same = ap (λ ys. f x ∷ ys) same
    by false same = same

left_false : (a b : Bool) → a || b ≡ false → a ≡ false
left_false true b none = cc
left_false false b none = refl

right_false : (a b : Bool) → a || b ≡ false → b ≡ false
right_false true b none = cc
right_false false b none = none

both_false : (a b : Bool) → a ≡ false → b ≡ false → a || b ≡ false
both_false true b p q = cc
both_false false b p q = q

or_true : (a b : Bool) → b ≡ true → a || b ≡ true
or_true true b p = refl
or_true false b p = p

or_false : (a b : Bool) → a ≡ false → a || b ≡ b
or_false true b p = cc
or_false false b p = refl

module _ {A : Type 0} (test : List A → Bool) where
  -- where no end passes, the whole doesn't
  none_now : (xs : List A) → some_end test xs ≡ false → test xs ≡ false
  none_now [] none = none
  none_now (x ∷ xs) none = left_false (test (x ∷ xs)) (some_end test xs) none

  pub is_fit_of : (xs : List A) (answer : Answer) → IsAnswer test xs answer → is_fit answer ≡ test xs
  is_fit_of xs Fits is = sym is
  is_fit_of xs Differs is = sym is
  is_fit_of xs FitsNoEnd is = sym (none_now xs is)

  pub at_end : (xs : List A) (is : Bool) (answer : Answer) → answer ≡ (if is then Fits else Differs) → test xs ≡ is → IsAnswer test xs answer
  at_end xs true answer by is = subst (IsAnswer test xs) (sym by) is
  at_end xs false answer by is = subst (IsAnswer test xs) (sym by) is

  pub of_folders : (xs : List A) (is : Bool) (answer : Answer) → answer ≡ (if is then FitsNoEnd else Fits) → test xs ≡ not is → is ≡ (length xs == 0) → IsAnswer test xs answer
  of_folders [] true answer by fit is = subst (IsAnswer test []) (sym by) fit
  of_folders (x ∷ xs) true answer by fit is = cc (eqb-suc-zero (length xs))
  of_folders xs false answer by fit is = subst (IsAnswer test xs) (sym by) fit

  -- where no end passes, no end of a part does
  none_later : (xs : List A) → some_end test xs ≡ false → some_end test (drop 1 xs) ≡ false
  none_later [] none = none
  none_later (x ∷ xs) none = right_false (test (x ∷ xs)) (some_end test xs) none

  some_now : (xs : List A) → test xs ≡ true → some_end test xs ≡ true
  some_now [] is = is
  some_now (x ∷ xs) is = rw is refl

  -- an answer of a `*` and what follows it
  module _ (whole : List A → Bool) (is_star : (xs : List A) → whole xs ≡ some_end test xs) where
    ends_of_ends : (xs : List A) → some_end test xs ≡ false → some_end whole xs ≡ false
    ends_of_ends [] none = is_star [] ∙ none
    ends_of_ends (x ∷ xs) none = both_false (whole (x ∷ xs)) _ (is_star (x ∷ xs) ∙ none) (ends_of_ends xs (none_later (x ∷ xs) none))

    -- is that of what follows it, unless this differs
    pub star_stays : (xs : List A) (answer : Answer) → IsAnswer test xs answer → answer ≢ Differs → IsAnswer whole xs answer
    star_stays xs Fits is same = is_star xs ∙ some_now xs is
    star_stays xs Differs is same = absurd (same refl)
    star_stays xs FitsNoEnd is same = ends_of_ends xs is

    -- is that no end fits, where nothing is left
    pub star_ends : (xs : List A) → true ≡ (length xs == 0) → test xs ≡ false → some_end whole xs ≡ false
    star_ends [] none is = is_star [] ∙ is
    star_ends (x ∷ xs) none is = cc (eqb-suc-zero (length xs))

    -- is that of one byte or name less, where what follows it differs
    pub star_goes : (xs : List A) (answer : Answer) → test xs ≡ false → IsAnswer whole (drop 1 xs) answer → IsAnswer whole xs answer
    star_goes [] answer differs is = is
    star_goes (x ∷ xs) Fits differs is = is_star (x ∷ xs) ∙ or_true (test (x ∷ xs)) _ (sym (is_star xs) ∙ is)
    star_goes (x ∷ xs) Differs differs is = is_star (x ∷ xs) ∙ both_false (test (x ∷ xs)) _ differs (sym (is_star xs) ∙ is)
    star_goes (x ∷ xs) FitsNoEnd differs is =
        let none_of_rest : some_end test xs ≡ false = sym (is_star xs) ∙ whole_now xs is in
        both_false (whole (x ∷ xs)) _ (is_star (x ∷ xs) ∙ both_false (test (x ∷ xs)) _ differs none_of_rest) is
      where
        whole_now : (ys : List A) → some_end whole ys ≡ false → whole ys ≡ false
        whole_now [] none = none
        whole_now (y ∷ ys) none = left_false (whole (y ∷ ys)) (some_end whole ys) none

  -- an answer of a part that stands for a first byte or name, and what follows it
  module _ (whole first : List A → Bool) (at_end : first [] ≡ false) (is_part : (xs : List A) → whole xs ≡ first xs && test (drop 1 xs)) where
    pub part_differs : (xs : List A) → first xs ≡ false → whole xs ≡ false
    part_differs xs is = is_part xs ∙ ap (λ fit. fit && test (drop 1 xs)) is

    pub part_ends : (xs : List A) → true ≡ (length xs == 0) → some_end whole xs ≡ false
    part_ends [] none = part_differs [] at_end
    part_ends (x ∷ xs) none = cc (eqb-suc-zero (length xs))

    no_end : (xs : List A) → some_end test (drop 1 xs) ≡ false → some_end whole xs ≡ false
    no_end [] none = part_differs [] at_end
    no_end (x ∷ xs) none =
        both_false (whole (x ∷ xs)) _ (is_part (x ∷ xs) ∙ and_false (first (x ∷ xs)) _ (none_now xs none)) (no_end xs (none_later xs none))
      where
        and_false : (a b : Bool) → b ≡ false → a && b ≡ false
        and_false true b p = p
        and_false false b p = refl

    pub part_goes : (xs : List A) (answer : Answer) → first xs ≡ true → IsAnswer test (drop 1 xs) answer → IsAnswer whole xs answer
    part_goes xs Fits takes is = is_part xs ∙ ap (λ fit. fit && test (drop 1 xs)) takes ∙ is
    part_goes xs Differs takes is = is_part xs ∙ ap (λ fit. fit && test (drop 1 xs)) takes ∙ is
    part_goes xs FitsNoEnd takes is = no_end xs is
