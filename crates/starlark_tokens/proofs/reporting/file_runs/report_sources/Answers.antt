use Rattle.starlark_tokens.proofs.FileReports.{styled_totals}
use Rattle.starlark_tokens.specs.Reporting.FileReports.{are_named}
use Rattle.starlark_tokens.specs.CommandLine.Requests.{IsStyleOf}
use Rattle.starlark_tokens.proofs.reporting.file_runs.report_sources.Goals as goal

pub returns : goal.returns
returns c = styled_totals _ _ (IsStyleOf c.args.wanted.now (are_named c.args.sources.now) c.args.terminal) _ _ _ _ _ c.in_ok-summary.ensures
