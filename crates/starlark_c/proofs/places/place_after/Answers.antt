use Rattle.std.proofs.Common.{ap, arith, ◌∙◌}
use Rattle.std.proofs.lemmas.Str.Pattern.{rfind_char}
use Rattle.starlark_base.proofs.PlacesAlong.{one_line_by_index}
use Rattle.starlark_c.specs.Inner.OneLinePlaces.{place_on_line}
use Rattle.starlark_c.proofs.MovedPlaces.{after_line, on_line}
use Rattle.starlark_c.proofs.places.place_after.Goals as goal

pub returns-in-None : goal.returns-in-None
returns-in-None c front utf8 short is =
    let passed = c.args.passed.now in
    let none = rw c.in-None.is at (rfind_char 10 passed c.rfind.result c.rfind.ensures.cases (omega arith)) in
    c.place_after_line.ensures ∙ ap (λ begin. place_on_line begin passed) is ∙ on_line front passed utf8 c.utf8.passed (one_line_by_index passed none) short

pub returns-in-Some : goal.returns-in-Some
returns-in-Some c front utf8 short is =
    let passed = c.args.passed.now in
    let found = rw c.in-Some.is at (rfind_char 10 passed c.rfind.result c.rfind.ensures.cases (omega arith)) in
    c.place_after_line-in-Some.ensures
    ∙ rw (c.line_start.ensures, c.range_from.ensures.value, c.saturating_add-line.ensures, c.newline_count.ensures, is) (after_line front passed c.in-Some.last utf8 c.utf8.passed short found)
