use Rattle.starlark_base.proofs.ShortenedSpans.{line_ends_within, boundary_before_line_ends}
use Rattle.starlark_base.proofs.codemap.code_map.trim_line_ends.Goals as goal

pub overflow_sub-text : goal.overflow_sub-text
overflow_sub-text c =
    let e = c.as_bytes.ensures.value in
    let n = c.count_line_ends-line_ends.ensures in
    rw (n, e) (line_ends_within c.args.text.now)

pub range-requires-clause-end_boundary : goal.range-requires-clause-end_boundary
range-requires-clause-end_boundary c =
    let e = c.as_bytes.ensures.value in
    let n = c.count_line_ends-line_ends.ensures in
    rw (n, e) (boundary_before_line_ends c.args.text.now)
