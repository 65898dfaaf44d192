use Rattle.std.proofs.Common.{◌++◌, ◌∙◌, ap, codes}
use Rattle.std.specs.Str.{chars}
use Rattle.starlark_checks.specs.CheckTexts.{check_code, check_message}
use Rattle.starlark_token.specs.FaultCodes.{fault_code}
use Rattle.starlark_tokens.specs.OutputFormats.JsonStrings.{json_char, json_string}
use Rattle.starlark_tokens.specs.OutputFormats.ReportDocuments.{sarif_opening}
use Rattle.starlark_tokens.specs.OutputFormats.SarifRules.{rule, rules}
use Rattle.starlark_tokens.specs.ToldFaults.FaultHelps.{check_help, fault_help, input_help}
use Rattle.starlark_tokens.proofs.output_formats.report_documents.sarif_opening.Goals as goal

pub returns : goal.returns
unfolding chars check_code check_message check_help fault_code fault_help input_help json_char json_string rule rules sarif_opening lib.Utf8.encode
returns c =
    let end = codes "}}},\"columnKind\":\"unicodeCodePoints\",\"results\":[" in
    c.in_ok-push_str-2.ensures.bytes
    ∙ ap (λ t. t ++ end) (c.in_ok-push_str.ensures.bytes ∙ ap (λ t. t ++ codes "true") c.in_ok-text.ensures.ok)
