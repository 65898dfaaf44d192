-- The lanes that compare bytes with the ends of a run.
use Rattle.std.proofs.Common.{◌≡◌, ℕ, Bool, true, false, not, ◌||◌, ◌&&◌, ◌==◌, eqb, List, map, length, refl, ◌∙◌, bit_or}
use Rattle.std.proofs.lemmas.Simd.{zip2_splat}
use lib.Lanes.{zip2}
use Rattle.starlark_grammar.specs.declared.class.LiteralKind.{LiteralKind}
use Rattle.starlark_grammar.specs.declared.class.LiteralKind.TheVariants.{Text as OfText, Bytes as OfBytes, FString as OfFString}
use Rattle.starlark_grammar.specs.Items.{is_brace}
use Rattle.starlark_words.proofs.LaneRuns.{lane_of}
use Rattle.starlark_words.proofs.EqualLanes.{equal, equals, either_lanes}

is_equal : (v : List ℕ) → length v ≡ 16 → (y : ℕ) → equals v y ≡ map (λ x. lane_of (eqb x y)) v
is_equal v long y = zip2_splat equal v 16 y long

-- the bytes that end a run in any literal
abbrev pub always_ends : ℕ → ℕ → Bool
always_ends quote b = (b == quote || b == 92) || b == 13

pub always_lanes : (quote : ℕ) (v : List ℕ) → length v ≡ 16 → zip2 bit_or (zip2 bit_or (equals v quote) (equals v 92)) (equals v 13) ≡ map (λ x. lane_of (always_ends quote x)) v
always_lanes quote v long =
    either_lanes (λ x. eqb x quote || eqb x 92) (λ x. eqb x 13) v _ _ (either_lanes (λ x. eqb x quote) (λ x. eqb x 92) v _ _ (is_equal v long quote) (is_equal v long 92)) (is_equal v long 13)

or_none : (a b : Bool) → a ≡ (a || (b && false))
or_none true b = refl
or_none false true = refl
or_none false false = refl

or_all : (a b : Bool) → (a || b) ≡ (a || (b && true))
or_all true b = refl
or_all false true = refl
or_all false false = refl

or_false : (a : Bool) → a ≡ (a || false)
or_false true = refl
or_false false = refl

-- with the LFs, where they end a run
pub line_lanes : (p : ℕ → Bool) (is_triple : Bool) (v base : List ℕ) → length v ≡ 16 → is_triple ≡ false → base ≡ map (λ x. lane_of (p x)) v
    → zip2 bit_or base (equals v 10) ≡ map (λ x. lane_of (p x || (x == 10 && not is_triple))) v
line_lanes p true v base long single is = cc
line_lanes p false v base long single is = either_lanes p (λ x. eqb x 10) v _ _ is (is_equal v long 10) ∙ (λ i. map (λ x. lane_of (or_all (p x) (eqb x 10) i)) v)

pub no_line_lanes : (p : ℕ → Bool) (is_triple : Bool) (v base : List ℕ) → is_triple ≡ true → base ≡ map (λ x. lane_of (p x)) v → base ≡ map (λ x. lane_of (p x || (x == 10 && not is_triple))) v
no_line_lanes p true v base triple is = is ∙ (λ i. map (λ x. lane_of (or_none (p x) (eqb x 10) i)) v)
no_line_lanes p false v base triple is = cc

abbrev pub is_of_fstring : LiteralKind → Bool
is_of_fstring OfFString = true
is_of_fstring kind = false

-- with the braces, where they end a run
pub brace_lanes : (p : ℕ → Bool) (kind : LiteralKind) (v base : List ℕ) → length v ≡ 16 → is_of_fstring kind ≡ true → base ≡ map (λ x. lane_of (p x)) v
    → zip2 bit_or base (zip2 bit_or (equals v 123) (equals v 125)) ≡ map (λ x. lane_of (p x || is_brace kind x)) v
brace_lanes p OfFString v base long braces is =
    either_lanes p (λ x. eqb x 123 || eqb x 125) v _ _ is (either_lanes (λ x. eqb x 123) (λ x. eqb x 125) v _ _ (is_equal v long 123) (is_equal v long 125))
brace_lanes p OfText v base long braces is = cc
brace_lanes p OfBytes v base long braces is = cc

pub no_brace_lanes : (p : ℕ → Bool) (kind : LiteralKind) (v base : List ℕ) → is_of_fstring kind ≡ false → base ≡ map (λ x. lane_of (p x)) v → base ≡ map (λ x. lane_of (p x || is_brace kind x)) v
no_brace_lanes p OfFString v base none is = cc
no_brace_lanes p OfText v base none is = is ∙ (λ i. map (λ x. lane_of (or_false (p x) i)) v)
no_brace_lanes p OfBytes v base none is = is ∙ (λ i. map (λ x. lane_of (or_false (p x) i)) v)

-- the tests that the lanes make, as a run makes them
pub nested : (a b c d e : Bool) → ((((a || b) || c) || d) || e) ≡ (a || (b || (c || (d || e))))
nested true b c d e = refl
nested false true c d e = refl
nested false false true d e = refl
nested false false false true e = refl
nested false false false false e = refl
