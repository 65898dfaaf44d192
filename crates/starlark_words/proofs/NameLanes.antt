-- The lanes that tell which bytes a name may have.
use Rattle.std.proofs.Common.{◌≡◌, ℕ, Bool, true, false, ◌&&◌, not, eqb, leb, List, map, replicate, length, refl, ◌∙◌, bit_and, bit_or}
use Rattle.std.proofs.lemmas.Simd.{map-map, zip2_of_maps, zip2_splat, zip2_splat_left}
use lib.Lanes.{zip2}
use Rattle.starlark_grammar.specs.Words.{is_in_name}
use Rattle.starlark_words.proofs.LaneRuns.{lane_of}
use Rattle.starlark_words.proofs.EqualLanes.{equal, equals, either_lanes}

abbrev pub at_most : ℕ → ℕ → ℕ
at_most a b = lane_of (leb a b)

both_lane : (a b : Bool) → bit_and (lane_of a) (lane_of b) ≡ lane_of (a && b)
both_lane true true = refl
both_lane true false = refl
both_lane false true = refl
both_lane false false = refl

-- the lanes of v that lie between two bytes, or are one of these
abbrev pub between : ℕ → ℕ → List ℕ → List ℕ
between low high v = zip2 bit_and (zip2 at_most (replicate 16 low) v) (zip2 at_most v (replicate 16 high))

between_lanes : (low high : ℕ) (v : List ℕ) → length v ≡ 16 → between low high v ≡ map (λ x. lane_of (leb low x && leb x high)) v
between_lanes low high v long =
    zip2_of_maps bit_and (λ x. lane_of (leb low x)) (λ x. lane_of (leb x high)) v (zip2_splat_left at_most low 16 v long) (zip2_splat at_most v 16 high long)
    ∙ (λ i. map (λ x. both_lane (leb low x) (leb x high) i) v)

-- capitals, letters, `_` and digits
pub name_lanes : (v : List ℕ) → length v ≡ 16
    → zip2 bit_or (zip2 bit_or (zip2 bit_or (between 65 90 v) (between 97 122 v)) (equals v 95)) (between 48 57 v) ≡ map (λ x. lane_of (is_in_name x)) v
name_lanes v long =
    let letters = either_lanes _ _ v _ _ (between_lanes 65 90 v long) (between_lanes 97 122 v long) in
    let starts = either_lanes _ (λ x. eqb x 95) v _ _ letters (zip2_splat equal v 16 95 long) in
    either_lanes _ _ v _ _ starts (between_lanes 48 57 v long)

-- the other lanes, by what turns one that is set and one that isn't
turned_lane : (f : ℕ → ℕ) → f 255 ≡ 0 → f 0 ≡ 255 → (b : Bool) → f (lane_of b) ≡ lane_of (not b)
turned_lane f set clear true = set
turned_lane f set clear false = clear

pub turned_lanes : (f : ℕ → ℕ) → f 255 ≡ 0 → f 0 ≡ 255 → (p : ℕ → Bool) (v : List ℕ) → map f (map (λ x. lane_of (p x)) v) ≡ map (λ x. lane_of (not (p x))) v
turned_lanes f set clear p v = map-map f (λ x. lane_of (p x)) v ∙ (λ i. map (λ x. turned_lane f set clear (p x) i) v)
