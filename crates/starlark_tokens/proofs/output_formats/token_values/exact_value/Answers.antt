use Rattle.std.proofs.Common.{◌∙◌, ap, sym}
use Rattle.std.proofs.lemmas.Result.{OkIff-at_err, OkIff-at_ok}
use Rattle.starlark_tokens.specs.OutputFormats.Values.{exact_value, if_exact}
use Rattle.starlark_tokens.proofs.ExactValues.{canonical_read, too_great}
use Rattle.starlark_tokens.proofs.output_formats.token_values.exact_value.Goals as goal

pub returns-in-Ok : goal.returns-in-Ok
unfolding exact_value
returns-in-Ok c =
    let n = c.args.number.now in
    let read = canonical_read n c.digits.ensures.kept in
    let parsed = OkIff-at_ok _ _ _ c.in-Ok.value (rw (c.digits.ensures.value, c.radix.ensures.value, read.same) at c.from_str_radix.ensures.value) c.in-Ok.is in
    c.if_exact.ensures ∙ ap if_exact parsed.1

pub returns-in-Err : goal.returns-in-Err
returns-in-Err c =
    let n = c.args.number.now in
    let read = canonical_read n c.digits.ensures.kept in
    let refused = OkIff-at_err _ _ _ _ (rw (c.digits.ensures.value, c.radix.ensures.value, read.same) at c.from_str_radix.ensures.value) c.in-Err.is in
    sym (too_great n.radix n.digits (λ less. refused (read.numeral, less)))
