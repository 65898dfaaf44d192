use Rattle.std.proofs.Common.{◌≡◌, ◌-◌, ◌^◌, ◌∙◌, min, string_bytes, subst, sym}
use Rattle.std.specs.Prelude.{IfOk}
use Rattle.std.proofs.lemmas.Result.{err_from_is_err_and}
use Rattle.starlark_devices.specs.Calls.{Going}
use Rattle.starlark_tokens.proofs.ProblemReports.{count_items, count_problems, part_of_items, part_of_problems}
use Rattle.starlark_tokens.proofs.ReportWrites.{no_memory}
use Rattle.starlark_tokens.specs.Reporting.ReportWrites.{Takes}
use Rattle.starlark_tokens.proofs.reporting.report.report_shown.Goals as goal

pub returns-in_err-lexer-clause-written : goal.returns-in_err-lexer-clause-written
returns-in_err-lexer-clause-written g c =
    let p = err_from_is_err_and c.from_residual.result c.from_residual.ensures.1 in
    rw p.1 (no_memory g.W.WriteDevice.calls c.args.writer.now p.0 _ p.2)

pub returns-then-has_only_faults-clause-written : goal.returns-then-has_only_faults-clause-written
returns-then-has_only_faults-clause-written g c =
    let is = sym c.has_only_faults.ensures ∙ c.if-has_only_faults.true in
    let written = rw (c.requires.style, ← c.requires.text, c.in_ok-lexer.ensures.left) at c.report_problems.ensures.written in
    subst (λ t. Takes g.W.WriteDevice.calls Going c.args.writer.now c.report_problems.new.writer t c.report_problems.result) (part_of_problems c.args.style (string_bytes c.args.reporter.now.prefix) c.args.text.now is) written

pub returns-then-has_only_faults-clause-counted : goal.returns-then-has_only_faults-clause-counted
returns-then-has_only_faults-clause-counted g c =
    let is = sym c.has_only_faults.ensures ∙ c.if-has_only_faults.true in
    let counted = rw (c.requires.style, ← c.requires.text, c.in_ok-lexer.ensures.left) at c.report_problems.ensures.counted in
    subst (λ n. IfOk c.report_problems.result (λ faults. faults ≡ min n (2 ^ 64 - 1))) (count_problems c.args.style c.args.text.now is) counted

pub returns-clause-written : goal.returns-clause-written
returns-clause-written g c =
    let is = sym c.has_only_faults.ensures ∙ c.if-has_only_faults.false in
    let written = rw (c.requires.style, ← c.requires.text, c.in_ok-lexer.ensures.left) at c.report_left.ensures.written in
    subst (λ t. Takes g.W.WriteDevice.calls Going c.args.writer.now c.report_left.new.writer t c.report_left.result) (part_of_items c.args.style (string_bytes c.args.reporter.now.prefix) c.args.text.now is) written

pub returns-clause-counted : goal.returns-clause-counted
returns-clause-counted g c =
    let is = sym c.has_only_faults.ensures ∙ c.if-has_only_faults.false in
    let counted = rw c.in_ok-lexer.ensures.left at c.report_left.ensures.counted in
    subst (λ n. IfOk c.report_left.result (λ faults. faults ≡ min n (2 ^ 64 - 1))) (count_items c.args.style c.args.text.now is) counted
