use Rattle.std.proofs.Common.{ap}
use Rattle.std.proofs.lemmas.Result.{err_from_is_err_and}
use Rattle.starlark_tokens.proofs.FileReports.{document_flushed, document_unflushed}
use Rattle.starlark_tokens.proofs.reporting.file_runs.report_to.Goals as goal

pub returns-in_err-flush_once : goal.returns-in_err-flush_once
returns-in_err-flush_once g c =
    let p = err_from_is_err_and c.from_residual-in_err-flush_once.result c.from_residual-in_err-flush_once.ensures.1 in
    let output = ap (λ screen. screen.output) c.clear.ensures.after in
    let flush = c.in_err-flush_once.ensures in
    rw (p.1, p.2) (document_unflushed (g.S.Texts.gives c.args.texts.now) g.W.WriteDevice.calls c.args.style c.args.sources.now _ _ _ _ _ c.in_ok-summary.ensures (rw output at flush.bytes) (rw output at flush.call.called))

pub returns : goal.returns
returns g c =
    let output = ap (λ screen. screen.output) c.clear.ensures.after in
    let flush = c.in_ok-flush_once.ensures in
    document_flushed (g.S.Texts.gives c.args.texts.now) g.W.WriteDevice.calls c.args.style c.args.sources.now _ _ _ _ c.in_ok-summary.ensures (rw output at flush.bytes) (rw output at flush.call.called)
