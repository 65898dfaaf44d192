-- Open widths: what one more content line makes of them.
use Rattle.std.proofs.Common.{◌≡◌, ℕ, ◌+◌, ◌≤◌, ◌<◌, Bool, true, false, cond, List, [], ◌∷◌, ◌++◌, length, refl, ap, ◌∙◌, sym, subst, arith, nat_eq, nat_lt, ◌||◌, eqb, ltb}
use Rattle.std.specs.Prelude.{◌&&◌, if◌then◌else◌, count_by, filter}
use Rattle.std.specs.List.{list_all, list_any}
use Rattle.std.proofs.lemmas.Bool.{and_parts, ltb-true, ltb-false, eqb-true, ne_eqb}
use Rattle.std.proofs.lemmas.Bool.Decides.{nat_tests}
use Rattle.std.proofs.lemmas.List.{length-append}
use Rattle.std.proofs.lemmas.List.Folds.{list_all-append}
use Rattle.std.proofs.lemmas.List.Sums.{sum_by-cons, length-filter}
use Rattle.starlark_grammar.specs.Margins.{open_widths, is_widest, fits}

-- 1 where a test passes, and else 0
abbrev bit : Bool → ℕ
bit b = cond b 1 0

-- the last line's width, where it is positive
abbrev pub newest : ℕ → List ℕ
newest width = if nat_lt 0 width then width ∷ [] else []

-- AfterComments one more content line the open widths are those that are less than its width, and its own.
pub open-push : (widths : List ℕ) (width : ℕ) → open_widths (widths ++ width ∷ []) ≡ filter (λ w. nat_lt w width) (open_widths widths) ++ newest width
unfolding open_widths
open-push [] width = go (nat_lt 0 width)
  where
    go : (positive : Bool) → (if positive && true then width ∷ [] else []) ≡ [] ++ (if positive then width ∷ [] else [])
    go true = refl
    go false = refl
open-push (w ∷ widths) width =
    ap (λ (test : Bool). if nat_lt 0 w && test then w ∷ open_widths (widths ++ width ∷ []) else open_widths (widths ++ width ∷ [])) (list_all-append (nat_lt w) widths (width ∷ []))
    ∙ go (nat_lt 0 w) (list_all (nat_lt w) widths) (nat_lt w width) refl (open_widths (widths ++ width ∷ [])) (open-push widths width)
  where
    go : (positive least less : Bool) → nat_lt w width ≡ less → (more : List ℕ) → more ≡ filter (λ w. nat_lt w width) (open_widths widths) ++ newest width
        → (if positive && (least && (less && true)) then w ∷ more else more) ≡ filter (λ w. nat_lt w width) (if positive && least then w ∷ open_widths widths else open_widths widths) ++ newest width
    go false least less e more h = h
    go true false less e more h = h
    go true true true e more h = rw e (ap (λ ws. w ∷ ws) h)
    go true true false e more h = rw e h

-- what all widths pass the open ones do
pub open_all : (test : ℕ → Bool) (widths : List ℕ) → list_all test widths ≡ true → list_all test (open_widths widths) ≡ true
unfolding open_widths
open_all test [] h = refl
open_all test (w ∷ widths) h =
    let parts = and_parts (test w) (list_all test widths) h in
    go (nat_lt 0 w && list_all (nat_lt w) widths) (open_all test widths parts.1) parts.0
  where
    go : (kept : Bool) → list_all test (open_widths widths) ≡ true → test w ≡ true → list_all test (if kept then w ∷ open_widths widths else open_widths widths) ≡ true
    go true more passes = rw passes more
    go false more passes = more

pub positive : (widths : List ℕ) → list_all (nat_lt 0) (open_widths widths) ≡ true
unfolding open_widths
positive [] = refl
positive (w ∷ widths) = go (nat_lt 0 w) (list_all (nat_lt w) widths) refl (positive widths)
  where
    go : (more kept : Bool) → nat_lt 0 w ≡ more → list_all (nat_lt 0) (open_widths widths) ≡ true → list_all (nat_lt 0) (if more && kept then w ∷ open_widths widths else open_widths widths) ≡ true
    go true true e rest = rw e rest
    go true false e rest = rest
    go false kept e rest = rest

none_equal : (width : ℕ) (xs : List ℕ) → list_all (nat_lt width) xs ≡ true → count_by (nat_eq width) xs ≡ 0
none_equal width [] h = refl
none_equal width (x ∷ xs) h =
    let parts = and_parts (nat_lt width x) (list_all (nat_lt width) xs) h in
    let less : width < x = ltb-true width x parts.0 in
    let other : eqb width x ≡ false = ne_eqb width x (λ e. absurd (omega (arith, e, less))) in
    let more = none_equal width xs parts.1 in
    let first : bit (eqb width x) ≡ 0 = ap bit other in
    sum_by-cons (λ v. cond (nat_eq width v) 1 0) x xs ∙ omega (arith, first, more)

-- no open width is there twice
distinct : (width : ℕ) (widths : List ℕ) → count_by (nat_eq width) (open_widths widths) ≤ 1
unfolding open_widths
distinct width [] = omega arith
distinct width (w ∷ widths) = go (nat_lt 0 w) (list_all (nat_lt w) widths) refl (eqb width w) refl (distinct width widths)
  where
    go : (more kept : Bool) → list_all (nat_lt w) widths ≡ kept → (same : Bool) → eqb width w ≡ same → count_by (nat_eq width) (open_widths widths) ≤ 1 → count_by (nat_eq width) (if more && kept then w ∷ open_widths widths else open_widths widths) ≤ 1
    go false kept e same f rest = rest
    go true false e same f rest = rest
    go true true e true f rest =
        let equal : width ≡ w = eqb-true width w f in
        let none : count_by (nat_eq width) (open_widths widths) ≡ 0 = none_equal width (open_widths widths) (open_all (nat_lt width) widths (subst (λ v. list_all (nat_lt v) widths ≡ true) (sym equal) e)) in
        let first : bit (eqb width w) ≡ 1 = ap bit f in
        let total = sum_by-cons (λ v. cond (nat_eq width v) 1 0) w (open_widths widths) in
        omega (arith, total, first, none)
    go true true e false f rest =
        let first : bit (eqb width w) ≡ 0 = ap bit f in
        let total = sum_by-cons (λ v. cond (nat_eq width v) 1 0) w (open_widths widths) in
        omega (arith, total, first, rest)

one_of_three : (w x : ℕ) → cond (ltb w x) 1 0 + cond (ltb x w) 1 0 + cond (eqb w x) 1 0 ≡ 1
one_of_three w x = grind (arith, nat_tests)

-- each of a list is greater, less or equal
three_ways : (width : ℕ) (xs : List ℕ) → count_by (nat_lt width) xs + count_by (λ x. nat_lt x width) xs + count_by (nat_eq width) xs ≡ length xs
three_ways width [] = refl
three_ways width (x ∷ xs) =
    let greater = sum_by-cons (λ v. cond (nat_lt width v) 1 0) x xs in
    let less = sum_by-cons (λ v. cond (nat_lt v width) 1 0) x xs in
    let equal = sum_by-cons (λ v. cond (nat_eq width v) 1 0) x xs in
    let one = one_of_three width x in
    let more = three_ways width xs in
    omega (arith, greater, less, equal, one, more)

some_equal : (width : ℕ) (xs : List ℕ) → list_any (nat_eq width) xs ≡ true → 1 ≤ count_by (nat_eq width) xs
some_equal width [] h = cc
some_equal width (x ∷ xs) h = go (eqb width x) refl h (some_equal width xs)
  where
    go : (same : Bool) → eqb width x ≡ same → (same || list_any (nat_eq width) xs) ≡ true → (list_any (nat_eq width) xs ≡ true → 1 ≤ count_by (nat_eq width) xs) → 1 ≤ count_by (nat_eq width) (x ∷ xs)
    go true e h more =
        let first : bit (eqb width x) ≡ 1 = ap bit e in
        let total = sum_by-cons (λ v. cond (nat_eq width v) 1 0) x xs in
        omega (arith, first, total)
    go false e h more =
        let rest = more h in
        let total = sum_by-cons (λ v. cond (nat_eq width v) 1 0) x xs in
        omega (arith, rest, total)

all_less : (width : ℕ) (xs : List ℕ) → is_widest width xs ≡ true → count_by (λ x. nat_lt x width) xs ≡ length xs
all_less width [] h = refl
all_less width (x ∷ xs) h =
    let parts = and_parts (nat_lt x width) (is_widest width xs) h in
    let first : bit (nat_lt x width) ≡ 1 = ap bit parts.0 in
    let total = sum_by-cons (λ v. cond (nat_lt v width) 1 0) x xs in
    let more = all_less width xs parts.1 in
    omega (arith, first, total, more)

newest_len : (width : ℕ) → length (newest width) ≡ cond (nat_lt 0 width) 1 0
newest_len width = go (nat_lt 0 width)
  where
    go : (more : Bool) → length (if more then width ∷ [] else []) ≡ cond more 1 0
    go true = refl
    go false = refl

pushed_len : (widths : List ℕ) (width : ℕ) → length (open_widths (widths ++ width ∷ [])) ≡ count_by (λ w. nat_lt w width) (open_widths widths) + cond (nat_lt 0 width) 1 0
pushed_len widths width =
    let kept = length-filter (λ w. nat_lt w width) (open_widths widths) in
    let added = newest_len width in
    let whole = length-append (filter (λ w. nat_lt w width) (open_widths widths)) (newest width) in
    ap (λ (ws : List ℕ). length ws) (open-push widths width) ∙ omega (arith, kept, added, whole)

-- a positive width that is the widest is one more
pub indent_len : (widths : List ℕ) (width : ℕ) → (nat_lt 0 width && is_widest width (open_widths widths)) ≡ true → length (open_widths (widths ++ width ∷ [])) ≡ length (open_widths widths) + 1
indent_len widths width h =
    let parts = and_parts (nat_lt 0 width) (is_widest width (open_widths widths)) h in
    let all = all_less width (open_widths widths) parts.1 in
    let added : bit (nat_lt 0 width) ≡ 1 = ap bit parts.0 in
    pushed_len widths width ∙ omega (arith, all, added)

-- any other width that fits leaves all but the greater ones
pub dedent_len : (widths : List ℕ) (width : ℕ) → fits width (open_widths widths) ≡ true → (nat_lt 0 width && is_widest width (open_widths widths)) ≡ false → count_by (nat_lt width) (open_widths widths) + length (open_widths (widths ++ width ∷ [])) ≡ length (open_widths widths)
unfolding fits
dedent_len widths width h g =
    let three = three_ways width (open_widths widths) in
    let pushed = pushed_len widths width in
    let equal = go (nat_lt 0 width) refl (is_widest width (open_widths widths)) (list_any (nat_eq width) (open_widths widths)) refl (eqb width 0) refl h g in
    omega (arith, three, pushed, equal)
  where
    go : (more : Bool) → nat_lt 0 width ≡ more → (widest : Bool) (any : Bool) → list_any (nat_eq width) (open_widths widths) ≡ any → (none : Bool) → eqb width 0 ≡ none
        → (none || any || widest) ≡ true → (more && widest) ≡ false → count_by (nat_eq width) (open_widths widths) ≡ cond (nat_lt 0 width) 1 0
    go false e widest any f none k h g =
        let zero_width : width ≡ 0 = let bound = ltb-false 0 width e in omega (arith, bound) in
        subst (λ w. count_by (nat_eq w) (open_widths widths) ≡ cond (nat_lt 0 w) 1 0) (sym zero_width) (none_equal 0 (open_widths widths) (positive widths))
    go true e true any f none k h g = cc
    go true e false any f true k h g =
        let zero_width : width ≡ 0 = eqb-true width 0 k in
        let more : 0 < width = ltb-true 0 width e in
        absurd (omega (arith, zero_width, more))
    go true e false true f false k h g =
        let least = some_equal width (open_widths widths) f in
        let most = distinct width widths in
        let one : bit (nat_lt 0 width) ≡ 1 = ap bit e in
        omega (arith, least, most, one)
    go true e false false f false k h g = cc
