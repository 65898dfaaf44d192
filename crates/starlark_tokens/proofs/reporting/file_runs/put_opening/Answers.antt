use Rattle.std.proofs.lemmas.Result.{err_from_is_err_and}
use Rattle.starlark_tokens.proofs.ReportWrites.{no_memory}
use Rattle.starlark_tokens.proofs.reporting.file_runs.put_opening.Goals as goal

pub returns-in_err-text : goal.returns-in_err-text
returns-in_err-text g c =
    let p = err_from_is_err_and c.from_residual.result c.from_residual.ensures.1 in
    rw p.1 (no_memory g.W.WriteDevice.calls c.args.screen.now.output p.0 _ p.2)
