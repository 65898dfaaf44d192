use Rattle.std.proofs.Common.{◌+◌, ◌++◌, ◌∙◌, ap, codes, decimal, string_bytes}
use Rattle.starlark_tokens.proofs.AppendedTexts.{three}
use Rattle.starlark_tokens.specs.OutputFormats.SarifResults.{sarif_end}
use Rattle.starlark_tokens.proofs.output_formats.sarif_results.push_sarif_end.Goals as goal

pub returns : goal.returns
unfolding sarif_end
returns c =
    let place = c.args.end.place in
    let line = codes ",\"endLine\":" ++ decimal (place.line + 1) in
    let column = codes ",\"endColumn\":" ++ decimal (place.column + 1) in
    let last = codes "}}}]}" in
    c.in_ok-push_str.ensures.bytes
    ∙ ap (λ t. t ++ last) (c.in_ok-push_field-2.ensures ∙ ap (λ t. t ++ column) c.in_ok-push_field.ensures)
    ∙ three (string_bytes c.args.line.now) line column last
