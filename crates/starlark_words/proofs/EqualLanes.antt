-- The lanes that compare bytes with others.
use Rattle.std.proofs.Common.{◌≡◌, ℕ, ◌%◌, ◌^◌, Bool, true, false, ◌||◌, ◌&&◌, not, eqb, List, map, replicate, length, refl, ◌∙◌, bit_or}
use Rattle.std.proofs.lemmas.Simd.{zip2_splat, zip2_of_maps}
use lib.Lanes.{mask_l, top, zip2}
use Rattle.starlark_words.specs.Inner.LaneMasks.{MarksEnd}
use Rattle.starlark_words.specs.Inner.LineFronts.{is_in_front}
use Rattle.starlark_words.proofs.LaneRuns.{lane_of, either_lane, lanes_marked, marked_as}

abbrev pub equal : ℕ → ℕ → ℕ
equal a b = lane_of (eqb a b)

-- the lanes of v that are equal to a byte
abbrev pub equals : List ℕ → ℕ → List ℕ
equals v y = zip2 equal v (replicate 16 y)

pub either_lanes : (p q : ℕ → Bool) (v xs ys : List ℕ) → xs ≡ map (λ x. lane_of (p x)) v → ys ≡ map (λ x. lane_of (q x)) v → zip2 bit_or xs ys ≡ map (λ x. lane_of (p x || q x)) v
either_lanes p q v xs ys a b = zip2_of_maps bit_or (λ x. lane_of (p x)) (λ x. lane_of (q x)) v a b ∙ (λ i. map (λ x. either_lane (p x) (q x) i) v)

-- the mask of the LFs and of the `other` bytes of v
abbrev ends_mask : ℕ → List ℕ → ℕ
ends_mask other v = mask_l (map (top 7) (zip2 bit_or (equals v other) (equals v 10))) % 2 ^ 64

neither : (a b : Bool) → not (a || b) ≡ (not a && not b)
neither true b = refl
neither false b = refl

-- it marks where a line's front ends
pub front_marked : (other : ℕ) (v : List ℕ) → length v ≡ 16 → MarksEnd (is_in_front other) v (ends_mask other v)
front_marked other v long =
    let lanes = either_lanes (λ b. eqb b other) (λ b. eqb b 10) v _ _ (zip2_splat equal v 16 other long) (zip2_splat equal v 16 10 long) in
    marked_as (λ x. not (eqb x other || eqb x 10)) (is_in_front other) (λ x. neither (eqb x other) (eqb x 10)) v _ (lanes_marked (λ x. eqb x other || eqb x 10) v _ long lanes)
