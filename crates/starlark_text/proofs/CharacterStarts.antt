-- Characters that begin among the bytes of a text, counted in parts and many at once.
use Rattle.std.proofs.Common.{◌≡◌, ℕ, ◌+◌, ◌≤◌, ◌-◌, ◌%◌, ◌^◌, Bool, true, false, cond, ◌||◌, ltb, leb, List, map, replicate, length, take, drop, count_by, count_ones, refl, ap, ◌∙◌, sym, bit_or, arith}
use Rattle.std.proofs.lemmas.List.{length-map, length-take, take_all}
use Rattle.std.proofs.lemmas.List.Sums.{sum_by-append, count_by-le-length}
use Rattle.std.proofs.Math.Seq.{take-add}
use Rattle.std.proofs.lemmas.Simd.{map-map, mask_l-mod, ones-mask_l, zip2_splat, zip2_splat_left, zip2_of_maps}
use Rattle.starlark_text.specs.Characters.{starts_character}
use lib.Lanes.{mask_l, top, zip2}

-- What a comparison leaves in a lane, and the union of two.
abbrev lane_of : Bool → ℕ
lane_of passes = cond passes 255 0

either_lane : (a b : Bool) → bit_or (lane_of a) (lane_of b) ≡ lane_of (a || b)
either_lane true true = refl
either_lane true false = refl
either_lane false true = refl
either_lane false false = refl

top_lane : (b : Bool) → top 7 (lane_of b) ≡ b
top_lane true = refl
top_lane false = refl

abbrev less : ℕ → ℕ → ℕ
less a b = lane_of (ltb a b)

abbrev at_most : ℕ → ℕ → ℕ
at_most a b = lane_of (leb a b)

-- the lanes that are below 128 or at least 192
abbrev pub begun_lanes : ℕ → List ℕ → List ℕ
begun_lanes n v = zip2 bit_or (zip2 less v (replicate n 128)) (zip2 at_most (replicate n 192) v)

begun_lanes_are : (n : ℕ) (v : List ℕ) → length v ≡ n → begun_lanes n v ≡ map (λ x. lane_of (starts_character x)) v
begun_lanes_are n v long =
    zip2_of_maps bit_or (λ x. lane_of (ltb x 128)) (λ x. lane_of (leb 192 x)) v (zip2_splat less v n 128 long) (zip2_splat_left at_most 192 n v long)
    ∙ (λ i. map (λ x. either_lane (ltb x 128) (leb 192 x) i) v)

-- as many bits of the mask are set as lanes begin a character
pub lanes_counted : (n : ℕ) (v : List ℕ) → length v ≡ n → n ≤ 64 → count_ones (mask_l (map (top 7) (begun_lanes n v)) % 2 ^ 64) ≡ count_by starts_character v
lanes_counted n v long few =
    ap (λ l. count_ones (mask_l (map (top 7) l) % 2 ^ 64)) (begun_lanes_are n v long)
    ∙ ap (λ l. count_ones (mask_l l % 2 ^ 64)) (map-map (top 7) (λ x. lane_of (starts_character x)) v ∙ (λ i. map (λ x. top_lane (starts_character x) i) v))
    ∙ ap count_ones (mask_l-mod (map starts_character v) 64 (omega (arith, length-map v starts_character, long)))
    ∙ ones-mask_l starts_character v

-- the bytes before a place and so many after it
pub begun_on : (bytes : List ℕ) (at more : ℕ) → count_by starts_character (take (at + more) bytes) ≡ count_by starts_character (take at bytes) + count_by starts_character (take more (drop at bytes))
begun_on bytes at more = ap (count_by starts_character) (take-add at more bytes) ∙ sum_by-append (λ b. cond (starts_character b) 1 0) (take at bytes) (take more (drop at bytes))

-- the bytes before a place and all after it
pub begun_rest : (bytes : List ℕ) (at : ℕ) → at ≤ length bytes → count_by starts_character bytes ≡ count_by starts_character (take at bytes) + count_by starts_character (take (length bytes - at) (drop at bytes))
begun_rest bytes at within =
    let whole : at + (length bytes - at) ≡ length bytes = omega arith in
    sym (ap (count_by starts_character) (ap (λ n. take n bytes) whole ∙ take_all (length bytes) bytes (omega arith))) ∙ begun_on bytes at (length bytes - at)

-- no more characters begin before a place than there are bytes
pub begun_bound : (bytes : List ℕ) (at : ℕ) → count_by starts_character (take at bytes) ≤ length bytes
begun_bound bytes at = omega (arith, count_by-le-length starts_character (take at bytes), length-take at bytes)
