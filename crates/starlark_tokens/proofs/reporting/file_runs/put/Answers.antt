use Rattle.starlark_tokens.proofs.ReportWrites.{screens, takes_out, written_all}
use Rattle.starlark_tokens.proofs.reporting.file_runs.put.Goals as goal

pub returns : goal.returns
returns g c =
    let output = g.W.WriteDevice.calls in
    let terminal = g.T.WriteDevice.calls in
    takes_out output terminal _ _ _ _ c.args.bytes.now c.write_all.result (written_all (screens output terminal) _ _ _ c.args.bytes.now c.write_all.result c.write_all.ensures.text)
