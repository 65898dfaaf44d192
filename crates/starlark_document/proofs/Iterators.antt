-- What is left of the lexemes and faults of segments.
use Rattle.std.proofs.Common.{◌≡◌, ℕ, zero, suc, ◌+◌, ◌≤◌, List, [], ◌∷◌, ◌++◌, Some, length, drop, length-append, map, refl, sym, ap, subst, ◌∙◌, arith}
use Rattle.std.proofs.lemmas.List.{drop_all}
use Rattle.std.proofs.lemmas.Option.{same_Some}
use Rattle.std.specs.List.{AllByRecursion, slice_get}
use Rattle.starlark_document.proofs.SegmentOffsets.{drop_at}
use Rattle.starlark_document.specs.Inner.Segments.{AreBounded, AreFaults, IsBounded, IsPlaced, faults_along, faults_from, lexemes_along, lexemes_from, text_in, text_of}
use Rattle.starlark_document.specs.declared.segments.PlacedFault.{PlacedFault}
use Rattle.starlark_document.specs.declared.segments.Segment.{Segment}
use Rattle.starlark_grammar.specs.Tokens.{Fault, Spanned, moved}
use Rattle.starlark_grammar.specs.Found.{faults_in, found}

pub lexemes_from-start : (begin : ℕ) (segments : List Segment) → lexemes_from begin 0 segments ≡ lexemes_along begin segments
lexemes_from-start begin [] = refl
lexemes_from-start begin (segment ∷ more) = refl

pub faults_from-start : (begin : ℕ) (segments : List Segment) → faults_from begin 0 segments ≡ faults_along begin segments
faults_from-start begin [] = refl
faults_from-start begin (segment ∷ more) = refl

-- the fault of the grammar that a fault of the code is
pub fault_at : (faults : List (Spanned Fault)) (placed : List PlacedFault) (at : ℕ) (one : PlacedFault) → AreFaults faults placed → slice_get placed at ≡ Some one
    → (fault : Spanned Fault) × (slice_get faults at ≡ Some fault) × IsPlaced fault one
fault_at [] [] at one are is = absurd (cc)
fault_at [] (first ∷ placed) at one are is = absurd are
fault_at (fault ∷ faults) [] at one are is = absurd are
fault_at (fault ∷ faults) (first ∷ placed) zero one are is = (fault, refl, subst (λ (x : PlacedFault). IsPlaced fault x) (same_Some first one is) are.0)
fault_at (fault ∷ faults) (first ∷ placed) (suc at) one are is = fault_at faults placed at one are.1 is

pub length-AreFaults : (faults : List (Spanned Fault)) (placed : List PlacedFault) → AreFaults faults placed → length faults ≡ length placed
length-AreFaults [] [] are = refl
length-AreFaults [] (first ∷ placed) are = absurd are
length-AreFaults (fault ∷ faults) [] are = absurd are
length-AreFaults (fault ∷ faults) (first ∷ placed) are = ap suc (length-AreFaults faults placed are.1)

-- The next fault of segments is the fault of the first one at the index, and after it those from the next index on are left.
pub next_fault : (begin at : ℕ) (segments : List Segment) (segment : Segment) (one : PlacedFault) → slice_get segments 0 ≡ Some segment → AllByRecursion IsBounded segments
    → slice_get segment.content.value.faults.items at ≡ Some one
    → (fault : Spanned Fault) × IsPlaced fault one × (faults_from begin at segments ≡ moved begin fault ∷ faults_from begin (at + 1) segments)
next_fault begin at [] segment one first all is = absurd (cc)
next_fault begin at (head ∷ more) segment one first all is =
    let there : slice_get head.content.value.faults.items at ≡ Some one = subst (λ (x : Segment). slice_get x.content.value.faults.items at ≡ Some one) (sym (same_Some head segment first)) is in
    let here = fault_at (faults_in (found (text_in head))) head.content.value.faults.items at one all.0.faults there in
    (here.0, here.2, ap (λ (xs : List (Spanned Fault)). map (moved begin) xs ++ faults_along (begin + head.len) more) (drop_at (faults_in (found (text_in head))) at here.0 here.1))

-- where no fault of the first segment is left, those of the others are
pub faults_passed : (begin at : ℕ) (segments : List Segment) (segment : Segment) → slice_get segments 0 ≡ Some segment → AllByRecursion IsBounded segments
    → length segment.content.value.faults.items ≤ at → faults_from begin at segments ≡ faults_from (begin + segment.len) 0 (drop 1 segments)
faults_passed begin at [] segment first all within = absurd (cc)
faults_passed begin at (head ∷ more) segment first all within =
    let passed : length head.content.value.faults.items ≤ at = subst (λ (x : Segment). length x.content.value.faults.items ≤ at) (sym (same_Some head segment first)) within in
    let none = drop_all at (faults_in (found (text_in head))) (omega (arith, passed, length-AreFaults (faults_in (found (text_in head))) head.content.value.faults.items all.0.faults)) in
    ap (λ (xs : List (Spanned Fault)). map (moved begin) xs ++ faults_along (begin + head.len) more) none
    ∙ ap (λ (x : Segment). faults_along (begin + x.len) more) (same_Some head segment first)
    ∙ sym (faults_from-start (begin + segment.len) more)

-- the segments after the first one
pub bounded_rest : (begin : ℕ) (segments : List Segment) (segment : Segment) → slice_get segments 0 ≡ Some segment → AreBounded begin segments
    → AreBounded (begin + segment.len) (drop 1 segments)
bounded_rest begin [] segment first all = absurd (cc)
bounded_rest begin (head ∷ more) segment first all =
    let len = ap (λ (x : Segment). x.len) (same_Some head segment first) in
    (all.0.1, omega (arith, len, all.1, all.0.0.len, length-append (text_in head) (text_of more)))
