use Rattle.std.proofs.lemmas.Result.{err_from_is_err_and}
use Rattle.starlark_tokens.proofs.ReportWrites.{no_memory, same_error, written_all}
use Rattle.starlark_tokens.proofs.reporting.problems.put_done.Goals as goal

pub returns-in_err-count-clause-written : goal.returns-in_err-count-clause-written
returns-in_err-count-clause-written g c problem is =
    let p = err_from_is_err_and c.from_residual.result c.from_residual.ensures.1 in
    rw p.1 (no_memory g.W.WriteDevice.calls c.args.writer.now p.0 _ p.2)

pub returns-in_err-write_all-clause-written : goal.returns-in_err-write_all-clause-written
returns-in_err-write_all-clause-written g c problem is =
    let p = err_from_is_err_and c.from_residual-in_err-write_all.result c.from_residual-in_err-write_all.ensures.1 in
    let calls = g.W.WriteDevice.calls in
    let lines = c.in_ok-count.ensures.lines problem is in
    rw p.1 (same_error calls _ _ _ p.0 _ p.2 (written_all calls _ _ _ _ _ (rw (c.as_bytes.ensures.value, lines) at c.in_err-write_all.ensures.text)))

pub returns-clause-written : goal.returns-clause-written
returns-clause-written g c problem is =
    let lines = c.in_ok-count.ensures.lines problem is in
    written_all g.W.WriteDevice.calls _ _ _ _ _ (rw (c.as_bytes.ensures.value, lines) at c.in_ok-write_all.ensures.text)
