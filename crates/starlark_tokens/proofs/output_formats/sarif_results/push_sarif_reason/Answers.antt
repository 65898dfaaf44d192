use Rattle.std.proofs.Common.{◌++◌, ◌∙◌, ap, append_assoc, codes, string_bytes}
use Rattle.starlark_tokens.specs.OutputFormats.JsonStrings.{json_string}
use Rattle.starlark_tokens.proofs.output_formats.sarif_results.push_sarif_reason.Goals as goal

pub returns : goal.returns
returns c =
    let line = string_bytes c.args.line.now in
    let begin = codes ",\n{\"level\":\"error\",\"message\":{\"text\":" in
    let words = json_string c.args.reason.now in
    c.in_ok-push_json_string.ensures ∙ ap (λ t. t ++ words) c.in_ok-push_str.ensures.bytes ∙ append_assoc line begin words
