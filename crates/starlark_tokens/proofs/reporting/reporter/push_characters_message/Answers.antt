use Rattle.std.proofs.Common.{◌≡◌, ◌++◌, ◌∙◌, ap, codes, count_by, drop, string_bytes, take}
use Rattle.std.proofs.lemmas.List.{take_rest}
use Rattle.starlark_base.proofs.Pairs.{front_range}
use Rattle.starlark_text.specs.Characters.{starts_character}
use Rattle.starlark_tokens.proofs.AppendedTexts.{four}
use Rattle.starlark_tokens.proofs.ProblemReports.{on_ok}
use Rattle.starlark_tokens.specs.OutputFormats.SourceLines.{boundary_from}
use Rattle.starlark_tokens.specs.Reporting.Reports.{characters_message, more_characters}
use Rattle.starlark_tokens.proofs.reporting.reporter.push_characters_message.Goals as goal

pub returns : goal.returns
unfolding characters_message
returns c =
    let text = c.args.characters.now in
    let old = string_bytes c.args.message.now in
    let begin = codes "invalid input `" in
    let end = codes "`" in
    let n = boundary_from text 24 in
    let at = c.boundary_from-len.result in
    let len : at ≡ n = c.boundary_from-len.ensures.value in
    let front : c.range.result.now ≡ take n text = c.range.ensures.value ∙ front_range text at ∙ ap (λ k. take k text) len in
    let rest = take_rest c.as_bytes.result.now at ∙ ap (drop at) c.as_bytes.ensures.value in
    let count : c.count_starts.result ≡ count_by starts_character (drop n text) = c.count_starts.ensures ∙ ap (count_by starts_character) rest ∙ ap (λ k. count_by starts_character (drop k text)) len in
    let pushed = c.in_ok-push_str-3.ensures.bytes ∙ ap (λ t. t ++ end) (c.in_ok-push_str-2.ensures.bytes ∙ ap (λ t. t ++ c.range.result.now) c.in_ok-push_str.ensures.bytes) in
    on_ok _ _ c.push_more_characters.result _ _ (λ more.
    more ∙ ap (λ t. t ++ more_characters c.count_starts.result) pushed
    ∙ four old begin c.range.result.now end (more_characters c.count_starts.result)
    ∙ ap (λ t. old ++ (begin ++ (t ++ (end ++ more_characters c.count_starts.result)))) front
    ∙ ap (λ k. old ++ (begin ++ (take n text ++ (end ++ more_characters k)))) count) c.push_more_characters.ensures
