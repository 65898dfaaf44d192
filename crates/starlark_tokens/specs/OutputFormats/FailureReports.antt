-- What is told of a source that has no text.
use Rattle.std.specs.Prelude.{[]}
use Rattle.starlark_base.specs.Places.{Text}
use Rattle.starlark_tokens.specs.OutputFormats.GithubLines.{github_failure}
use Rattle.starlark_tokens.specs.OutputFormats.SarifResults.{sarif_notice}
use Rattle.starlark_tokens.specs.declared.output_formats.form.Form.{Form}
use Rattle.starlark_tokens.specs.declared.output_formats.form.Form.TheVariants.{Github, Sarif}

-- what is told of it among the reports
unfoldable pub failure_report : Form → (name reason : Text) → Text
failure_report Github name reason = github_failure name reason
failure_report form name reason = []

-- what is told of it where the document ends
unfoldable pub failure_notice : Form → (name reason : Text) → Text
failure_notice Sarif name reason = sarif_notice name reason
failure_notice form name reason = []
