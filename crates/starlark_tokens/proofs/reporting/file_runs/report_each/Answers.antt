use Rattle.std.proofs.lemmas.Result.{err_from_is_err_and}
use Rattle.starlark_tokens.proofs.FileReports.{next_source, none_yet, same_source, stopped_at}
use Rattle.starlark_tokens.proofs.ReportWrites.{same_error, screens, stops_out, took_out}
use Rattle.starlark_tokens.proofs.reporting.file_runs.report_each.Goals as goal

pub loop-done-init : goal.loop-done-init
loop-done-init g c =
    let gives = g.S.Texts.gives c.args.texts.now in
    let calls = g.W.WriteDevice.calls in
    none_yet gives calls c.args.style c.args.sources.now.lost c.args.screen.now.output c.of_unreadable-summary.result (c.of_unreadable-summary.ensures.totals c.args.style) c.of_unreadable-summary.ensures.notices

pub loop-done-preserved : goal.loop-done-preserved
loop-done-preserved g c =
    let so_far = rw (← c.show_done.ensures) at c.loop-done.invariant in
    let gives = g.S.Texts.gives c.args.texts.now in
    let calls = g.W.WriteDevice.calls in
    let all = screens calls g.T.WriteDevice.calls in
    let next = same_source gives all c.args.style _ _ c.loop-done.summary c.report_source.new.summary c.show_done.new.screen c.report_source.new.output _ c.source-item.is c.in_ok-report_source.ensures in
    let written = took_out calls g.T.WriteDevice.calls _ c.show_done.new.screen c.report_source.new.output _ next.written in
    next_source gives calls c.args.style _ _ _ c.loop-done.done c.source-item.result next.text _ _ _ _ _ c.deref-source-items.ensures.value c.loop-done-test.true so_far next.given written next.counted next.noted

pub returns-in_err-report_source : goal.returns-in_err-report_source
returns-in_err-report_source g c =
    let p = err_from_is_err_and c.from_residual.result c.from_residual.ensures.1 in
    let so_far = rw (← c.show_done.ensures) at c.loop-done.invariant in
    let gives = g.S.Texts.gives c.args.texts.now in
    let calls = g.W.WriteDevice.calls in
    let all = screens calls g.T.WriteDevice.calls in
    let next = same_source gives all c.args.style _ _ c.loop-done.summary c.report_source.new.summary c.show_done.new.screen c.report_source.new.output _ c.source-item.is c.in_err-report_source.ensures in
    let stopped = stops_out calls g.T.WriteDevice.calls c.show_done.new.screen c.report_source.new.output _ _ next.written in
    let same = same_error calls _ _ _ p.0 _ p.2 stopped in
    rw p.1 (stopped_at gives calls c.args.style c.args.sources.now _ c.loop-done.done c.source-item.result next.text _ _ _ c.loop-done.summary p.0 c.deref-source-items.ensures.value c.loop-done-test.true so_far next.given same)
