use Rattle.std.proofs.Common.{◌∙◌, Err, Ok, ap, append-nil, string_bytes, sym}
use Rattle.std.proofs.lemmas.Result.{err_from_is_err_and}
use Rattle.starlark_tokens.proofs.FileReports.{anyway}
use Rattle.starlark_tokens.proofs.ReportWrites.{same_error}
use Rattle.starlark_tokens.specs.Reporting.Totals.{with_file}
use Rattle.starlark_tokens.proofs.reporting.file_runs.report_source.Goals as goal

pub returns-in_err-faults-in-Ok : goal.returns-in_err-faults-in-Ok
returns-in_err-faults-in-Ok g c =
    let p = err_from_is_err_and c.from_residual.result c.from_residual.ensures.1 in
    let stopped = same_error g.W.WriteDevice.calls _ _ _ p.0 _ p.2 (rw (c.name.ensures, c.as_str.ensures.value) at c.in_err-faults-in-Ok.ensures.written) in
    rw p.1 (record { text = Ok _; given = rw c.in-Ok.is at c.text.ensures.given; written = stopped; counted = tt; noted = tt })

pub returns-in_ok-faults-in-Ok : goal.returns-in_ok-faults-in-Ok
returns-in_ok-faults-in-Ok g c =
    record {
      text = Ok _;
      given = rw c.in-Ok.is at c.text.ensures.given;
      written = rw (c.name.ensures, c.as_str.ensures.value) at c.in_ok-faults-in-Ok.ensures.written;
      counted = c.add.ensures ∙ ap (λ n. with_file c.args.summary.now.totals n) (rw c.as_str.ensures.value at c.in_ok-faults-in-Ok.ensures.counted);
      noted = sym (append-nil (string_bytes c.args.summary.now.notices));
    }

pub returns-in-Err : goal.returns-in-Err
returns-in-Err g c =
    let reported = rw c.name-in-Err.ensures at c.report_failure.ensures in
    record {
      text = Err reported.reason;
      given = (_, rw c.in-Err.is at c.text.ensures.given, reported.is_reason);
      written = reported.written;
      counted = anyway c.report_failure.result (c.add_failure.ensures c.args.style reported.reason);
      noted = reported.noted;
    }
