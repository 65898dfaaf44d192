use Rattle.std.proofs.Common.{◌∙◌, sym, ap}
use Rattle.starlark_text.specs.Scanning.{plain_width, token_found}
use Rattle.starlark_text.proofs.FormatTokens.{at_open, at_close, plain_ok, plain_boundary, front_is}
use Rattle.starlark_text.proofs.dot_format_parser.token_at.Goals as goal

pub returns-then-first-eq123 : goal.returns-then-first-eq123
returns-then-first-eq123 c = c.open_token.ensures ∙ ap (token_found c.args.at) (sym (at_open c.args.text.now c.requires.some (rw c.as_bytes.ensures.value at c.if-first-eq123.true)))

pub returns-then-first-eq125 : goal.returns-then-first-eq125
returns-then-first-eq125 c = c.close_token.ensures c.args.at ∙ ap (token_found c.args.at) (sym (at_close c.args.text.now c.requires.some (rw c.as_bytes.ensures.value at c.if-first-eq125.true)))

pub range-requires-clause-end_boundary : goal.range-requires-clause-end_boundary
range-requires-clause-end_boundary c = plain_boundary c.args.text.now c.plain_len-len.result (c.plain_len-len.ensures.value ∙ ap plain_width c.as_bytes-2.ensures.value)

pub returns : goal.returns
returns c =
    plain_ok c.args.text.now c.range.result.now c.args.at c.plain_len-len.result c.requires.some
    (rw c.as_bytes.ensures.value at c.if-first-eq123.false)
    (rw c.as_bytes.ensures.value at c.if-first-eq125.false)
    (c.plain_len-len.ensures.value ∙ ap plain_width c.as_bytes-2.ensures.value)
    (c.range.ensures.value ∙ front_is c.args.text.now c.plain_len-len.result)
