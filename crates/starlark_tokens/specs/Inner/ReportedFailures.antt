-- Sources that have no text, as they are reported.
use Rattle.std.specs.Prelude.{◌≡◌, ◌++◌, Result, OnOk}
use Rattle.std.specs.declared.io.Error.{Error}
use Rattle.starlark_base.specs.Places.{Text}
use Rattle.starlark_devices.specs.Calls.{WriterCalls, Going}
use Rattle.starlark_tokens.specs.OutputFormats.FailureReports.{failure_notice, failure_report}
use Rattle.starlark_tokens.specs.Reporting.ReportWrites.{Takes}
use Rattle.starlark_tokens.specs.Files.SourceNames.{IsReason}
use Rattle.starlark_tokens.specs.declared.files.sources.SourceFault.{SourceFault}
use Rattle.starlark_tokens.specs.declared.output_formats.form.Form.{Form}

-- A source that has no text was reported with the reason: by calls of the output, and where this succeeded in the notices.
pub record IsFailureReported {W T : Type 0} (calls : WriterCalls W) (form : Form) (name : Text) (fault : SourceFault) (old new : Text) (before after : W) (result : Result T Error) : Type 0 where
  pub reason : Text
  pub is_reason : IsReason fault reason
  pub written : Takes calls Going before after (failure_report form name reason) result
  pub noted : OnOk result (new ≡ old ++ failure_notice form name reason)
