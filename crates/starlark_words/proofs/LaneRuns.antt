-- Runs of bytes in parts, and runs that are found in some bytes at once.
use Rattle.std.proofs.Common.{◌≡◌, ℕ, zero, suc, zero-add, ◌+◌, ◌-◌, ◌≤◌, ◌<◌, ◌%◌, ◌^◌, Bool, true, false, cond, ◌||◌, not, eqb, List, [], ◌∷◌, ◌*◌, map, length, take, drop, refl, ap, ◌∙◌, sym, subst, bit_or, arith}
use Rattle.std.proofs.lemmas.Bool.{eq-eqb, ne_eqb, cond-true, cond-false}
use Rattle.std.proofs.lemmas.List.{length-take-le, length-drop, length-map, take-append-drop, take_all, drop-drop}
use Rattle.std.proofs.lemmas.List.Folds.{prefix_len-append}
use Rattle.std.proofs.lemmas.List.Sums.{prefix_len-drop_yes, prefix_len-le-length, prefix_len_passes}
use Rattle.std.proofs.lemmas.Simd.{map-map, mask_l-mod, leading_from_mask_l, trailing_mask_l}
use Rattle.std.specs.Int.{trailing_zeros, w64}
use Rattle.std.specs.List.{prefix_len}
use lib.Lanes.{mask_l, top}
use Rattle.starlark_words.specs.Inner.LaneMasks.{MarksEnd}

module _ (p : ℕ → Bool) (n : ℕ) (xs : List ℕ) (room : n ≤ length xs) where
  parts : prefix_len p xs ≡ cond (eqb (prefix_len p (take n xs)) n) (n + prefix_len p (drop n xs)) (prefix_len p (take n xs))
  parts =
      let long = length-take-le n xs room in
      ap (prefix_len p) (sym (take-append-drop n xs)) ∙ prefix_len-append p (take n xs) (drop n xs)
      ∙ ap (λ m. cond (eqb (prefix_len p (take n xs)) m) (m + prefix_len p (drop n xs)) (prefix_len p (take n xs))) long

  -- a run that ends among the first n
  pub run_ends : prefix_len p (take n xs) < n → prefix_len p (take n xs) ≡ prefix_len p xs
  run_ends less = sym (parts ∙ cond-false (eqb (prefix_len p (take n xs)) n) _ _ (ne_eqb (prefix_len p (take n xs)) n other))
    where
      other : prefix_len p (take n xs) ≡ n → ⊥
      other e = omega (arith, e, less)

  -- a run that goes on after the first n
  pub run_goes_on : prefix_len p (take n xs) ≡ n → prefix_len p xs ≡ n + prefix_len p (drop n xs)
  run_goes_on e = parts ∙ cond-true (eqb (prefix_len p (take n xs)) n) _ _ (eq-eqb (prefix_len p (take n xs)) n e)

-- A run that is known up to an offset, and the n bytes from there on.
module _ (p : ℕ → Bool) (n at : ℕ) (xs : List ℕ) (known : prefix_len p xs ≡ at + prefix_len p (drop at xs)) (room : at + n ≤ length xs) where
  remaining : n ≤ length (drop at xs)
  remaining = omega (arith, length-drop at xs, room)

  -- it ends among them
  pub step_ends : prefix_len p (take n (drop at xs)) < n → prefix_len p xs ≡ at + prefix_len p (take n (drop at xs))
  step_ends less = omega (arith, known, run_ends p n (drop at xs) remaining less)

  -- it goes on after them
  pub step_goes_on : prefix_len p (take n (drop at xs)) ≡ n → prefix_len p xs ≡ at + n + prefix_len p (drop (at + n) xs)
  step_goes_on whole = omega (arith, known, run_goes_on p n (drop at xs) remaining whole, ap (prefix_len p) (drop-drop n at xs))

-- bytes at the start of a run
pub run_passed : (p : ℕ → Bool) (n : ℕ) (xs : List ℕ) → n ≤ prefix_len p xs → prefix_len p xs ≡ n + prefix_len p (drop n xs)
run_passed p zero xs few = sym (zero-add _)
run_passed p (suc n) xs few =
    let less : n < length xs = omega (arith, few, prefix_len-le-length p xs) in
    let on = prefix_len-drop_yes p xs n 0 less (prefix_len_passes p xs n 0 (omega (arith, few))) in
    let next : prefix_len p (drop (n + 1) xs) ≡ prefix_len p (drop (suc n) xs) = ap (λ i. prefix_len p (drop i xs)) one in
    omega (arith, run_passed p n xs (omega (arith, few)), on, next)
  where
    one : n + 1 ≡ suc n
    one = omega arith

-- the last n bytes, where a run is known up to an offset in them
pub last_run : (p : ℕ → Bool) (n at : ℕ) (xs : List ℕ) → prefix_len p xs ≡ at + prefix_len p (drop at xs) → n ≤ length xs → length xs < at + n → prefix_len p xs ≡ length xs - n + prefix_len p (take n (drop (length xs - n) xs))
last_run p n at xs known long near =
    let last : ℕ = length xs - n in
    let all = run_passed p last xs (omega (arith, known, near)) in
    let rest = take_all n (drop last xs) (omega (arith, length-drop last xs, long)) in
    omega (arith, all, ap (prefix_len p) rest)

-- a front's run is no longer than the front
pub run_within : (p : ℕ → Bool) (n : ℕ) (xs : List ℕ) → n ≤ length xs → prefix_len p (take n xs) ≤ n
run_within p n xs room = omega (arith, prefix_len-le-length p (take n xs), length-take-le n xs room)

-- What a comparison leaves in a lane, and the union of two.
abbrev pub lane_of : Bool → ℕ
lane_of passes = cond passes 255 0

pub either_lane : (a b : Bool) → bit_or (lane_of a) (lane_of b) ≡ lane_of (a || b)
either_lane true true = refl
either_lane true false = refl
either_lane false true = refl
either_lane false false = refl

top_lane : (b : Bool) → top 7 (lane_of b) ≡ b
top_lane true = refl
top_lane false = refl

-- where a bit is set, a lane passes
found_inside : (p : ℕ → Bool) (xs : List ℕ) → 0 < mask_l (map p xs) → prefix_len (λ x. not (p x)) xs < length xs
found_inside p [] some = absurd (omega (arith, some))
found_inside p (x ∷ xs) some = go (p x) some (found_inside p xs)
  where
    go : (passes : Bool) → 0 < cond passes 1 0 + 2 * mask_l (map p xs) → (0 < mask_l (map p xs) → prefix_len (λ y. not (p y)) xs < length xs) → cond (not passes) (1 + prefix_len (λ y. not (p y)) xs) 0 < suc (length xs)
    go true some more = omega arith
    go false some more = omega (arith, more (omega (arith, some)))

-- the mask of lanes marks the first byte that passes
pub lanes_marked : (p : ℕ → Bool) (v z : List ℕ) → length v ≡ 16 → z ≡ map (λ x. lane_of (p x)) v → MarksEnd (λ x. not (p x)) v (mask_l (map (top 7) z) % 2 ^ 64)
lanes_marked p v z long lanes =
    let mask : mask_l (map (top 7) z) % 2 ^ 64 ≡ mask_l (map p v) =
    ap (λ l. mask_l l % 2 ^ 64) (ap (map (top 7)) lanes ∙ map-map (top 7) (λ x. lane_of (p x)) v ∙ (λ i. map (λ x. top_lane (p x) i) v)) ∙ mask_l-mod (map p v) 64 (omega (arith, length-map v p, long)) in
    let first = λ (some : 0 < mask_l (map (top 7) z) % 2 ^ 64). ap (trailing_zeros w64) mask ∙ trailing_mask_l p 64 v (omega (arith, long)) (omega (arith, some, mask)) in
    record {
      none = λ none. leading_from_mask_l p v (sym mask ∙ none) ∙ long;
      some = λ some. (first some, omega (arith, first some, found_inside p v (omega (arith, some, mask)), long));
    }

-- also if another test is the same
pub marked_as : (p q : ℕ → Bool) → ((b : ℕ) → p b ≡ q b) → (v : List ℕ) (mask : ℕ) → MarksEnd p v mask → MarksEnd q v mask
marked_as p q same v mask marks = subst (λ (test : ℕ → Bool). MarksEnd test v mask) (λ i b. same b i) marks
