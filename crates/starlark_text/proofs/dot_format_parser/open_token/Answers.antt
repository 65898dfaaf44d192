use Rattle.std.proofs.Common.{◌+◌, ◌∙◌, sym, ap, ◌≡◌, false, drop}
use Rattle.std.proofs.lemmas.Result.{err_from_is_err_and}
use Rattle.starlark_text.specs.Formats.{Text}
use Rattle.starlark_text.specs.Scanning.{ending, ending_view, name_width, is_doubled}
use Rattle.starlark_text.proofs.FormatTokens.{open_ok, open_err, open_boundary, tail_of, slice_is}
use Rattle.starlark_text.proofs.dot_format_parser.open_token.Goals as goal
use Rattle.starlark_text.proofs.dot_format_parser.open_token.Goals.{After-name_len-end}

once : (c : After-name_len-end) → is_doubled c.args.text.now ≡ false
once c = rw c.as_bytes-bytes.ensures.value at (sym c.is_doubled.ensures ∙ c.if-is_doubled.false)

width : (c : After-name_len-end) → c.name_len-end.result ≡ name_width (drop 1 c.args.text.now)
width c = c.name_len-end.ensures.value ∙ ap name_width (tail_of c.as_bytes-bytes.result.now c.args.text.now 1 c.as_bytes-bytes.ensures.value)

pub returns-in_err-conv : goal.returns-in_err-conv
returns-in_err-conv c =
    let at = (goal.at.returns-in_err-conv c).After-name_len-end in
    let found = c.in_err-conv.ensures ∙ ap (λ (t : Text). ending_view (ending t)) (tail_of c.as_bytes-bytes.result.now c.args.text.now (1 + c.name_len-end.result) c.as_bytes-bytes.ensures.value) in
    let p = err_from_is_err_and c.from_residual.result c.from_residual.ensures.1 in
    rw (p.1, p.2) (open_err c.args.text.now c.args.at c.name_len-end.result c.in_err-conv.field-0.0 (once at) (width at) found)

pub range-requires-clause-start_boundary : goal.range-requires-clause-start_boundary
range-requires-clause-start_boundary c = λ _. open_boundary c.args.text.now c.utf8.text c.requires.brace

pub returns : goal.returns
returns c =
    let at = (goal.at.returns c).After-name_len-end in
    let found = c.in_ok-conv.ensures ∙ ap (λ (t : Text). ending_view (ending t)) (tail_of c.as_bytes-bytes.result.now c.args.text.now (1 + c.name_len-end.result) c.as_bytes-bytes.ensures.value) in
    open_ok c.args.text.now c.range.result.now c.args.at c.name_len-end.result c.in_ok-conv.more c.in_ok-conv.conv (once at) (width at) (c.range.ensures.value ∙ slice_is c.args.text.now 1 c.name_len-end.result) found
