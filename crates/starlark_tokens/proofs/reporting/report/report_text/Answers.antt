use Rattle.std.proofs.Common.{◌-◌, ◌∙◌, ap, subst, sym}
use Rattle.std.proofs.lemmas.Result.{err_from_is_err_and}
use Rattle.starlark_devices.specs.Calls.{Going}
use Rattle.starlark_tokens.proofs.ReportWrites.{no_memory, same_error, stops_later, stops_longer, took_then}
use Rattle.starlark_tokens.specs.Reporting.ReportWrites.{StopsWithin, Took}
use Rattle.starlark_tokens.proofs.Reported.{report_all}
use Rattle.starlark_tokens.proofs.reporting.report.report_text.Goals as goal

pub returns-in_err-reporter-clause-written : goal.returns-in_err-reporter-clause-written
returns-in_err-reporter-clause-written g c =
    let p = err_from_is_err_and c.from_residual.result c.from_residual.ensures.1 in
    rw p.1 (no_memory g.W.WriteDevice.calls c.args.writer.now p.0 _ p.2)

pub returns-in_err-faults-clause-written : goal.returns-in_err-faults-clause-written
returns-in_err-faults-clause-written g c =
    let p = err_from_is_err_and c.from_residual-in_err-faults.result c.from_residual-in_err-faults.ensures.1 in
    let calls = g.W.WriteDevice.calls in
    let written = rw c.in_ok-reporter.ensures.prefix at c.in_err-faults.ensures.written in
    let stopped = stops_longer calls _ _ p.0 _ _ (same_error calls _ _ _ p.0 _ p.2 written) in
    rw p.1 (subst (StopsWithin calls c.args.writer.now c.report_shown.new.writer p.0) (sym (report_all c.args.style c.args.name.now c.args.text.now)) stopped)

pub returns-in_err-report_rest-clause-written : goal.returns-in_err-report_rest-clause-written
returns-in_err-report_rest-clause-written g c =
    let p = err_from_is_err_and c.from_residual-in_err-report_rest.result c.from_residual-in_err-report_rest.ensures.1 in
    let calls = g.W.WriteDevice.calls in
    let reporter = c.in_ok-reporter.ensures in
    let kept = c.in_ok-faults.ensures.kept in
    let style = kept.style ∙ reporter.style in
    let prefix = kept.prefix ∙ reporter.prefix in
    let hidden = c.saturating_sub.ensures ∙ ap (λ n. n - c.args.style.most) c.in_ok-faults.ensures.counted in
    let first = rw reporter.prefix at c.in_ok-faults.ensures.written in
    let rest = same_error calls _ _ _ p.0 _ p.2 (rw (style, prefix, hidden) at c.in_err-report_rest.ensures) in
    rw p.1 (subst (StopsWithin calls c.args.writer.now c.report_rest.new.writer p.0) (sym (report_all c.args.style c.args.name.now c.args.text.now)) (stops_later calls _ _ _ p.0 _ _ first rest))

pub returns-clause-written : goal.returns-clause-written
returns-clause-written g c =
    let calls = g.W.WriteDevice.calls in
    let reporter = c.in_ok-reporter.ensures in
    let kept = c.in_ok-faults.ensures.kept in
    let style = kept.style ∙ reporter.style in
    let prefix = kept.prefix ∙ reporter.prefix in
    let hidden = c.saturating_sub.ensures ∙ ap (λ n. n - c.args.style.most) c.in_ok-faults.ensures.counted in
    let first = rw reporter.prefix at c.in_ok-faults.ensures.written in
    let rest = rw (style, prefix, hidden) at c.in_ok-report_rest.ensures in
    subst (Took calls Going c.args.writer.now c.report_rest.new.writer) (sym (report_all c.args.style c.args.name.now c.args.text.now)) (took_then calls Going _ _ _ _ _ first rest)
