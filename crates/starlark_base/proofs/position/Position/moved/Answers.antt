use Rattle.std.proofs.Common.{◌≡◌, ◌∙◌, ap, arith, length, length-take-le, refl, sym, take}
use Rattle.std.proofs.lemmas.Str.{IsUtf8-take}
use Rattle.starlark_base.specs.declared.position.Position.{Position}
use Rattle.starlark_base.proofs.PlacesAlong.{column_bound, line_bound, place_onward}
use Rattle.starlark_base.proofs.Pairs.{pairs_bound, pairs_onward}
use Rattle.starlark_base.proofs.position.Position.moved.Goals as goal

pub place_after-requires-clause-line : goal.place_after-requires-clause-line
place_after-requires-clause-line c =
    let line = ap (λ (p : Position). p.place.line) c.requires.here.known in
    let front : length (take c.args.self.at c.args.text.now) ≡ c.args.self.at = length-take-le c.args.self.at c.args.text.now (omega arith) in
    omega (arith, line, front, line_bound (take c.args.self.at c.args.text.now))

pub place_after-requires-clause-column : goal.place_after-requires-clause-column
place_after-requires-clause-column c =
    let column = ap (λ (p : Position). p.place.column) c.requires.here.known in
    let front : length (take c.args.self.at c.args.text.now) ≡ c.args.self.at = length-take-le c.args.self.at c.args.text.now (omega arith) in
    omega (arith, column, front, column_bound (take c.args.self.at c.args.text.now) (IsUtf8-take c.args.text.now c.args.self.at c.utf8.text c.requires.here.boundary))

pub pairs_after-requires : goal.pairs_after-requires
pairs_after-requires c =
    let front : length (take c.args.self.at c.args.text.now) ≡ c.args.self.at = length-take-le c.args.self.at c.args.text.now (omega arith) in
    let pairs = ap (λ (p : Position). p.pairs) c.requires.here.known in
    omega (arith, pairs, front, pairs_bound (take c.args.self.at c.args.text.now))

pub returns : goal.returns
returns c =
    let text = c.args.text.now in
    let at = c.args.self.at in
    let placed = c.place_after.ensures (take at text) (IsUtf8-take text at c.utf8.text c.requires.here.boundary) (sym (ap (λ (p : Position). p.place) c.requires.here.known)) in
    let paired = c.pairs_after.ensures (take at text) (sym (ap (λ (p : Position). p.pairs) c.requires.here.known)) in
    let place = sym (rw c.range-passed.ensures.value at placed) ∙ place_onward text at c.args.to c.requires.onward in
    let pairs = sym (rw c.range-passed.ensures.value at paired) ∙ pairs_onward text at c.args.to c.requires.onward in
    rw (place, pairs) refl
