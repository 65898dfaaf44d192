use Rattle.std.proofs.Common.{arith}
use Rattle.std.proofs.lemmas.Str.Pattern.{rfind_char}
use Rattle.std.proofs.lemmas.List.Sums.{count_by-le-length}
use Rattle.starlark_base.specs.Positions.{starts_pair}
use Rattle.starlark_base.proofs.Pairs.{pairs_along, pairs_after_last}
use Rattle.starlark_base.proofs.PlacesAlong.{one_line_by_index}
use Rattle.starlark_base.proofs.position.pairs_after.Goals as goal

pub overflow_add-result : goal.overflow_add-result
overflow_add-result c = omega (arith, c.pair_count.ensures.value, count_by-le-length starts_pair c.args.passed.now, c.requires)

pub returns-in-None : goal.returns-in-None
returns-in-None c front is =
    let none = rw c.in-None.is at (rfind_char 10 c.args.passed.now c.rfind.result c.rfind.ensures.cases (omega arith)) in
    let along = pairs_along front c.args.passed.now (one_line_by_index c.args.passed.now none) in
    rw (is, ← c.pair_count.ensures.value) at along

pub returns-in-Some : goal.returns-in-Some
returns-in-Some c front is =
    let found = rw c.in-Some.is at (rfind_char 10 c.args.passed.now c.rfind.result c.rfind.ensures.cases (omega arith)) in
    let remainder = pairs_after_last front c.args.passed.now c.in-Some.last found in
    let count = rw c.range_from.ensures.value at c.pair_count-in-Some.ensures.value in
    rw (← count) at remainder
