use Rattle.std.proofs.Common.{sym, ◌∙◌}
use Rattle.starlark_text.proofs.Parts.{second_cut, found}
use Rattle.starlark_text.proofs.fast_string.convert_str_indices.Goals as goal

pub returns-in_err-haystack : goal.returns-in_err-haystack
returns-in_err-haystack c =
    absurd (second_cut c.args.s.now c.in_ok-rest.field-0-0.now c.in_ok-rest.rest.now c.args.start c.args.end c.len-count.result.0 c.start_place-start.result c.end_place-end.result c.utf8.s c.len-count.ensures.count c.start_place-start.ensures c.end_place-end.ensures c.in_ok-rest.ensures c.in_err-haystack.ensures)

pub returns : goal.returns
returns c =
    found c.args.s.now c.in_ok-rest.field-0-0.now c.in_ok-rest.rest.now c.in_ok-haystack.haystack.now c.in_ok-haystack.field-0-1.now c.args.start c.args.end c.len-count.result.0 c.start_place-start.result c.end_place-end.result c.utf8.s c.len-count.ensures.count c.start_place-start.ensures c.end_place-end.ensures (sym c.are_reversed.ensures ∙ c.if-are_reversed.false) (sym c.begins_past.ensures ∙ c.if-begins_past.false) c.if-end-start.false c.in_ok-rest.ensures c.in_ok-haystack.ensures
