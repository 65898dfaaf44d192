use Rattle.std.proofs.Common.{◌++◌, ◌∙◌, ap, codes, string_bytes}
use Rattle.starlark_tokens.proofs.AppendedTexts.{four}
use Rattle.starlark_tokens.specs.OutputFormats.JsonStrings.{json_string}
use Rattle.starlark_tokens.specs.OutputFormats.ItemLines.{reason}
use Rattle.starlark_tokens.specs.OutputFormats.SarifResults.{sarif_words}
use Rattle.starlark_tokens.proofs.output_formats.sarif_results.push_sarif_words.Goals as goal

pub returns : goal.returns
unfolding sarif_words
returns c =
    let line = string_bytes c.args.line.now in
    let begin = codes ",\n{\"ruleId\":\"" in
    let middle = codes "\",\"level\":\"error\",\"message\":{\"text\":" in
    let words = json_string (reason c.args.message.now) in
    let coded = c.in_ok-push_str-2.ensures.bytes ∙ ap (λ t. t ++ c.args.code.now) c.in_ok-push_str.ensures.bytes in
    (rw c.reason.ensures at c.in_ok-push_json_string.ensures)
    ∙ ap (λ t. t ++ words) (c.in_ok-push_str-3.ensures.bytes ∙ ap (λ t. t ++ middle) coded)
    ∙ four line begin c.args.code.now middle words
