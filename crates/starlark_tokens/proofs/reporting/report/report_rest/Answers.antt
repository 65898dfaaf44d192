use Rattle.std.proofs.lemmas.Result.{err_from_is_err_and}
use Rattle.starlark_tokens.proofs.ReportWrites.{no_memory, written_all}
use Rattle.starlark_tokens.proofs.reporting.report.report_rest.Goals as goal

pub returns-in_err-rest : goal.returns-in_err-rest
returns-in_err-rest g c =
    let p = err_from_is_err_and c.from_residual.result c.from_residual.ensures.1 in
    rw p.1 (no_memory g.W.WriteDevice.calls c.args.writer.now p.0 _ p.2)

pub returns : goal.returns
returns g c = written_all g.W.WriteDevice.calls _ _ _ _ _ (rw (c.as_bytes.ensures.value, c.in_ok-rest.ensures) at c.write_all.ensures.text)
