use Rattle.std.proofs.Common.{◌++◌, ◌∙◌, ap, codes, string_bytes}
use Rattle.starlark_tokens.proofs.AppendedTexts.{five}
use Rattle.starlark_tokens.specs.OutputFormats.GithubLines.{github_failure, message, property}
use Rattle.starlark_tokens.proofs.output_formats.github_lines.push_github_failure.Goals as goal

pub returns : goal.returns
unfolding github_failure
returns c =
    let line = string_bytes c.args.line.now in
    let begin = codes "::error file=" in
    let name = property c.args.name.now in
    let reason = message c.args.reason.now in
    let named = c.in_ok-push_property.ensures ∙ ap (λ t. t ++ name) c.in_ok-push_str.ensures.bytes in
    let parted = c.in_ok-push_str-2.ensures.bytes ∙ ap (λ t. t ++ codes "::") named in
    let told = c.in_ok-push_message.ensures ∙ ap (λ t. t ++ reason) parted in
    c.in_ok-push_str-3.ensures.bytes ∙ ap (λ t. t ++ codes "\n") told ∙ five line begin name (codes "::") reason (codes "\n")
