use Rattle.std.proofs.Common.{Err, Ok, drop}
use Rattle.std.proofs.lemmas.Result.{err_from_is_err_and}
use Rattle.starlark_tokens.proofs.FileReports.{closed, stopped_before, stopped_body}
use Rattle.starlark_tokens.proofs.ReportWrites.{no_memory, same_error, stops_longer}
use Rattle.starlark_tokens.proofs.reporting.file_runs.report_collected.Goals as goal

pub returns-in_err-summary : goal.returns-in_err-summary
returns-in_err-summary g c =
    let p = err_from_is_err_and c.from_residual.result c.from_residual.ensures.1 in
    let calls = g.W.WriteDevice.calls in
    rw p.1 (stopped_before (g.S.Texts.gives c.args.texts.now) calls c.args.style _ _ c.args.sources.now _ _ p.0 (no_memory calls _ p.0 _ p.2))

pub returns-in_err-put_opening : goal.returns-in_err-put_opening
returns-in_err-put_opening g c =
    let p = err_from_is_err_and c.from_residual-in_err-put_opening.result c.from_residual-in_err-put_opening.ensures.1 in
    let calls = g.W.WriteDevice.calls in
    let stopped = same_error calls _ _ _ p.0 _ p.2 c.in_err-put_opening.ensures in
    rw p.1 (stopped_before (g.S.Texts.gives c.args.texts.now) calls c.args.style _ _ c.args.sources.now _ _ p.0 (stops_longer calls _ _ p.0 _ _ stopped))

pub returns-in_err-put : goal.returns-in_err-put
returns-in_err-put g c =
    let p = err_from_is_err_and c.from_residual-in_err-put.result c.from_residual-in_err-put.ensures.1 in
    let calls = g.W.WriteDevice.calls in
    let found = c.in_ok-summary.ensures in
    let stopped = same_error calls _ _ _ p.0 _ p.2 (rw (c.without_first.ensures, c.as_slice.ensures.value, found.written) at c.in_err-put.ensures) in
    rw p.1 (stopped_body (g.S.Texts.gives c.args.texts.now) calls c.args.style (drop 1) c.args.sources.now _ _ _ found.reads c.in_ok-summary.summary p.0 found.each found.given found.counted found.noted c.in_ok-put_opening.ensures stopped)

pub returns-in_err-put_closing : goal.returns-in_err-put_closing
returns-in_err-put_closing g c =
    let p = err_from_is_err_and c.from_residual-in_err-put_closing.result c.from_residual-in_err-put_closing.ensures.1 in
    let calls = g.W.WriteDevice.calls in
    let found = c.in_ok-summary.ensures in
    let body = rw (c.without_first.ensures, c.as_slice.ensures.value, found.written) at c.in_ok-put.ensures in
    let stopped = same_error calls _ _ _ p.0 _ p.2 c.in_err-put_closing.ensures in
    rw p.1 (closed (g.S.Texts.gives c.args.texts.now) calls c.args.style (drop 1) c.args.sources.now _ _ _ _ found.reads c.in_ok-summary.summary (Err p.0) found.each found.given found.counted found.noted (λ found is. cc) c.in_ok-put_opening.ensures body stopped)

pub returns : goal.returns
returns g c =
    let calls = g.W.WriteDevice.calls in
    let found = c.in_ok-summary.ensures in
    let body = rw (c.without_first.ensures, c.as_slice.ensures.value, found.written) at c.in_ok-put.ensures in
    closed (g.S.Texts.gives c.args.texts.now) calls c.args.style (drop 1) c.args.sources.now _ _ _ _ found.reads c.in_ok-summary.summary (Ok c.in_ok-summary.summary) found.each found.given found.counted found.noted (λ found is. cc) c.in_ok-put_opening.ensures body c.in_ok-put_closing.ensures
