use Rattle.std.proofs.Common.{◌≡◌, ℕ, ◌+◌, ◌≤◌, List, Some, ap, arith, drop, length, refl, subst, sym, ◌∙◌, ◌∷◌}
use Rattle.std.proofs.lemmas.List.{take_rest}
use Rattle.std.proofs.lemmas.Option.{slice_get_read}
use Rattle.std.specs.List.{slice_get}
use Rattle.starlark_document.proofs.Iterators.{bounded_rest, faults_passed, next_fault}
use Rattle.starlark_document.specs.Inner.Segments.{AreBounded, IsPlaced, faults_from}
use Rattle.starlark_document.specs.declared.segments.Content.{Content}
use Rattle.starlark_document.specs.declared.segments.PlacedFault.{PlacedFault}
use Rattle.starlark_document.specs.declared.segments.Segment.{Segment}
use Rattle.starlark_grammar.specs.Tokens.{Fault, Spanned, moved}
use Rattle.starlark_document.proofs.segments.Faults.next.Goals as goal
use Rattle.starlark_document.proofs.segments.Faults.next.Goals.{In-Some}

-- the fault that is found
found : (c : In-Some) → (fault : Spanned Fault) × IsPlaced fault c.in-Some.fault.now
    × (faults_from c.loop-self.self-inside.begin c.loop-self.self-inside.at c.loop-self.self-inside.segments.now
    ≡ moved c.loop-self.self-inside.begin fault ∷ faults_from c.loop-self.self-inside.begin (c.loop-self.self-inside.at + 1) c.loop-self.self-inside.segments.now)
found c =
    let it = c.loop-self.self-inside in
    let segment = c.segment-item.result in
    let first = slice_get_read it.segments.now _ 0 segment refl (omega arith) c.segment-item.is in
    let items = c.deref-in-len1-up.ensures.value ∙ ap (λ (x : Content). x.faults.items) c.deref.ensures in
    let there = slice_get_read c.deref-in-len1-up.result.now _ it.at c.in-Some.fault.now refl c.in-Some.ensures.lookup.3.0 c.in-Some.ensures.lookup.1 in
    let at = subst (λ (xs : List PlacedFault). slice_get xs it.at ≡ Some c.in-Some.fault.now) items there in
    next_fault it.begin it.at it.segments.now segment c.in-Some.fault.now first c.loop-self.invariant.bounded.0 at

pub returns-in-Some-clause-some : goal.returns-in-Some-clause-some
returns-in-Some-clause-some c =
    let begin = c.loop-self.self-inside.begin in
    let next = found (goal.at.returns-in-Some-clause-some c).In-Some in
    let start = sym (c.loop-self.invariant.same ∙ c.self.view_is) ∙ next.2 in
    let kind : c.kind-kind.result.now ≡ c.in-Some.fault.now.exception.value = cc (c.kind-kind.ensures, c.error.ensures) in (
      moved begin next.0,
      ap (λ (xs : List (Spanned Fault)). slice_get xs 0) start,
      ap (λ (n : ℕ). begin + n) next.1.begin,
      (next.1.kind.0, next.1.kind.1, kind ∙ next.1.kind.2),
      ap (λ (n : ℕ). begin + n) next.1.end,
    )

pub returns-in-Some-clause-after : goal.returns-in-Some-clause-after
returns-in-Some-clause-after c =
    let next = found (goal.at.returns-in-Some-clause-after c).In-Some in
    sym (ap (λ (xs : List (Spanned Fault)). drop 1 xs) next.2) ∙ ap (λ (xs : List (Spanned Fault)). drop 1 xs) (c.loop-self.invariant.same ∙ c.self.view_is)

pub loop-self-preserved : goal.loop-self-preserved
loop-self-preserved c =
    let it = c.loop-self.self-inside in
    let segment = c.segment-item.result in
    let first = slice_get_read it.segments.now _ 0 segment refl (omega arith) c.segment-item.is in
    let items = c.deref-in-len1-up.ensures.value ∙ ap (λ (x : Content). x.faults.items) c.deref.ensures in
    let within = subst (λ (xs : List PlacedFault). length xs ≤ it.at) items c.in_default-get.ensures.lookup.3 in
    let passed = faults_passed it.begin it.at it.segments.now segment first c.loop-self.invariant.bounded.0 within in
    let rest = bounded_rest it.begin it.segments.now segment first c.loop-self.invariant.bounded in
    let same = take_rest it.segments.now 1 in
    record {
      same = ap (λ (xs : List Segment). faults_from (it.begin + segment.len) 0 xs) same ∙ sym passed ∙ c.loop-self.invariant.same;
      bounded = subst (λ (xs : List Segment). AreBounded (it.begin + segment.len) xs) (sym same) rest;
    }
