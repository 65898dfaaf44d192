use Rattle.std.proofs.lemmas.Result.{err_from_is_err_and}
use Rattle.starlark_tokens.proofs.ReportWrites.{flushed_after, no_memory, same_error, written_all}
use Rattle.starlark_tokens.proofs.reporting.failures.put_failure.Goals as goal

pub returns-in_err-report : goal.returns-in_err-report
returns-in_err-report g c =
    let p = err_from_is_err_and c.from_residual.result c.from_residual.ensures.1 in
    rw p.1 (no_memory g.W.WriteDevice.calls c.args.output.now p.0 _ p.2)

pub returns-in_err-write_all : goal.returns-in_err-write_all
returns-in_err-write_all g c =
    let p = err_from_is_err_and c.from_residual-in_err-write_all.result c.from_residual-in_err-write_all.ensures.1 in
    let calls = g.W.WriteDevice.calls in
    let stopped = written_all calls _ _ _ _ _ (rw (c.as_bytes.ensures.value, c.in_ok-report.ensures) at c.in_err-write_all.ensures.text) in
    rw p.1 (same_error calls _ _ _ p.0 _ p.2 stopped)

pub returns : goal.returns
returns g c =
    let calls = g.W.WriteDevice.calls in
    let written = written_all calls _ _ _ _ _ (rw (c.as_bytes.ensures.value, c.in_ok-report.ensures) at c.in_ok-write_all.ensures.text) in
    flushed_after calls _ _ _ _ c.flush_once.result written c.flush_once.ensures.bytes c.flush_once.ensures.call
