use Rattle.std.proofs.Common.{Err, Ok, refl}
use Rattle.std.proofs.lemmas.Result.{err_from_is_err_and}
use Rattle.starlark_tokens.proofs.FileReports.{closed, each_reported, stopped_among, stopped_before}
use Rattle.starlark_tokens.proofs.ReportWrites.{same_error, stops_longer}
use Rattle.starlark_tokens.specs.OutputFormats.ReportDocuments.{closing, opening}
use Rattle.starlark_tokens.proofs.reporting.file_runs.report_streamed.Goals as goal

pub returns-in_err-put_opening : goal.returns-in_err-put_opening
returns-in_err-put_opening g c =
    let p = err_from_is_err_and c.from_residual.result c.from_residual.ensures.1 in
    let stopped = same_error g.W.WriteDevice.calls _ _ _ p.0 _ p.2 c.in_err-put_opening.ensures in
    rw p.1 (stopped_before (g.S.Texts.gives c.args.texts.now) g.W.WriteDevice.calls c.args.style _ _ c.args.sources.now _ _ p.0 (stops_longer g.W.WriteDevice.calls _ _ p.0 _ _ stopped))

pub returns-in_err-summary : goal.returns-in_err-summary
returns-in_err-summary g c =
    let p = err_from_is_err_and c.from_residual-in_err-summary.result c.from_residual-in_err-summary.ensures.1 in
    let style = c.args.style in
    let stopped = rw (← p.2) at c.in_err-summary.ensures in
    rw p.1 (stopped_among (g.S.Texts.gives c.args.texts.now) g.W.WriteDevice.calls style _ _ c.args.sources.now _ _ _ p.0 (opening style.form) (closing style.form) (λ totals told all. refl) c.in_ok-put_opening.ensures stopped)

pub returns-in_err-put_closing : goal.returns-in_err-put_closing
returns-in_err-put_closing g c =
    let p = err_from_is_err_and c.from_residual-in_err-put_closing.result c.from_residual-in_err-put_closing.ensures.1 in
    let gives = g.S.Texts.gives c.args.texts.now in
    let calls = g.W.WriteDevice.calls in
    let style = c.args.style in
    let sources = c.args.sources.now in
    let reported = c.in_ok-summary.ensures in
    let each = each_reported gives calls style _ _ sources _ _ _ reported in
    let stopped = same_error calls _ _ _ p.0 _ p.2 c.in_err-put_closing.ensures in
    rw p.1 (closed gives calls style (λ text. text) sources _ _ _ _ reported.reads c.in_ok-summary.summary (Err p.0) each reported.given reported.counted reported.noted (λ found is. cc) c.in_ok-put_opening.ensures reported.written stopped)

pub returns : goal.returns
returns g c =
    let gives = g.S.Texts.gives c.args.texts.now in
    let reported = c.in_ok-summary.ensures in
    let each = each_reported gives g.W.WriteDevice.calls c.args.style _ _ c.args.sources.now _ _ _ reported in
    closed gives g.W.WriteDevice.calls c.args.style (λ text. text) c.args.sources.now _ _ _ _ reported.reads c.in_ok-summary.summary (Ok c.in_ok-summary.summary) each reported.given reported.counted reported.noted (λ found is. cc) c.in_ok-put_opening.ensures reported.written c.in_ok-put_closing.ensures
