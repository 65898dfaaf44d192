use Rattle.std.proofs.Common.{◌+◌, ap, arith, length, length-append, length-drop}
use Rattle.std.proofs.lemmas.Str.Pattern.{rfind_char}
use Rattle.std.specs.List.{after_last}
use Rattle.starlark_base.proofs.Pairs.{last_line_after}
use Rattle.starlark_base.proofs.PlacesAlong.{after_last_along, one_line_by_index}
use Rattle.starlark_base.specs.Places.{is_lf}
use Rattle.starlark_tokens.proofs.told_faults.byte_columns.column_after.Goals as goal

pub returns-in-None : goal.returns-in-None
returns-in-None c front is =
    let passed = c.args.passed.now in
    let none = rw c.in-None.is at (rfind_char 10 passed c.rfind.result c.rfind.ensures.cases (omega arith)) in
    let along = ap length (after_last_along front passed (one_line_by_index passed none)) in
    omega (arith, is, along, length-append (after_last is_lf front) passed)

pub returns-in-Some : goal.returns-in-Some
returns-in-Some c front is =
    let passed = c.args.passed.now in
    let found = rw c.in-Some.is at (rfind_char 10 passed c.rfind.result c.rfind.ensures.cases (omega arith)) in
    let rest = ap length (last_line_after front passed c.in-Some.last found) in
    omega (arith, rest, found.0, length-drop (c.in-Some.last + 1) passed)
