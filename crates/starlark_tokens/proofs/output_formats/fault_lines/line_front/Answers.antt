use Rattle.std.proofs.Common.{[], arith, ap, sym, ◌∙◌}
use Rattle.std.proofs.lemmas.Str.Pattern.{rfind_char}
use Rattle.std.specs.List.{after_last}
use Rattle.starlark_base.specs.Places.{is_lf}
use Rattle.starlark_base.proofs.Pairs.{front_range, last_line_after, last_line_whole}
use Rattle.starlark_base.proofs.PlacesAlong.{one_line_by_index}
use Rattle.starlark_tokens.proofs.output_formats.fault_lines.line_front.Goals as goal

pub returns-in-None : goal.returns-in-None
returns-in-None c =
    let front = c.range-front.result.now in
    let none = rw c.in-None.is at (rfind_char 10 front c.rfind.result c.rfind.ensures.cases (omega arith)) in
    sym (last_line_whole front (one_line_by_index front none)) ∙ ap (after_last is_lf) (c.range-front.ensures.value ∙ front_range c.args.text.now c.args.at)

pub returns-in-Some : goal.returns-in-Some
returns-in-Some c =
    let front = c.range-front.result.now in
    let found = rw c.in-Some.is at (rfind_char 10 front c.rfind.result c.rfind.ensures.cases (omega arith)) in
    c.range_from.ensures.value ∙ sym (last_line_after [] front c.in-Some.last found) ∙ ap (after_last is_lf) (c.range-front.ensures.value ∙ front_range c.args.text.now c.args.at)
