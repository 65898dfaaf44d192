use Rattle.std.proofs.lemmas.Result.{err_from_is_err_and}
use Rattle.starlark_tokens.proofs.FileReports.{some_reason}
use Rattle.starlark_tokens.proofs.ReportWrites.{no_memory, same_error}
use Rattle.starlark_tokens.proofs.reporting.failures.report_failure.Goals as goal

pub returns-in_err-reason : goal.returns-in_err-reason
returns-in_err-reason g c =
    let p = err_from_is_err_and c.from_residual.result c.from_residual.ensures.1 in
    let some = some_reason c.args.fault.now in
    rw p.1 (record { reason = some.0; is_reason = some.1; written = no_memory g.W.WriteDevice.calls c.args.output.now p.0 _ p.2; noted = tt })

pub returns-in_err-push_failure_notice : goal.returns-in_err-push_failure_notice
returns-in_err-push_failure_notice g c =
    let p = err_from_is_err_and c.from_residual-in_err-push_failure_notice.result c.from_residual-in_err-push_failure_notice.ensures.1 in
    rw p.1 (record { reason = _; is_reason = c.in_ok-reason.ensures; written = no_memory g.W.WriteDevice.calls c.args.output.now p.0 _ p.2; noted = tt })

pub returns-in_err-put_failure : goal.returns-in_err-put_failure
returns-in_err-put_failure g c =
    let p = err_from_is_err_and c.from_residual-in_err-put_failure.result c.from_residual-in_err-put_failure.ensures.1 in
    let stopped = same_error g.W.WriteDevice.calls _ _ _ p.0 _ p.2 (rw c.as_str-2.ensures.value at c.in_err-put_failure.ensures) in
    rw p.1 (record { reason = _; is_reason = c.in_ok-reason.ensures; written = stopped; noted = tt })
