use Rattle.std.proofs.Common.{string_bytes}
use Rattle.starlark_tokens.proofs.FoundProblems.{characters_printed, fault_answer, fault_printed, finding_printed}
use Rattle.starlark_tokens.proofs.ProblemReports.{on_ok}
use Rattle.starlark_tokens.proofs.reporting.problems.report_found.Goals as goal

pub report_item-requires-clause-answered : goal.report_item-requires-clause-answered
report_item-requires-clause-answered c =
    fault_answer c.args.reporter.now.text.now c.in-Fault.exception c.requires.found.0 (rw c.in-Fault.is at c.requires.found.1)

pub returns-in_ok-report_item-in-Fault-clause-lines : goal.returns-in_ok-report_item-in-Fault-clause-lines
returns-in_ok-report_item-in-Fault-clause-lines c problem found =
    let r = c.args.reporter.now in
    fault_printed r.style (string_bytes r.prefix) r.text.now _ c.in-Fault.exception problem c.in_ok-report_item-in-Fault.ensures.lines (rw c.in-Fault.is at found)

pub returns-in-Characters-clause-lines : goal.returns-in-Characters-clause-lines
returns-in-Characters-clause-lines c =
    let r = c.args.reporter.now in
    on_ok _ _ c.characters.result _ _ (λ lines problem found.
    characters_printed r.style (string_bytes r.prefix) r.text.now _ c.in-Characters.run' problem lines (rw c.in-Characters.is at found)) c.characters.ensures.lines

pub returns-in-Finding-clause-lines : goal.returns-in-Finding-clause-lines
returns-in-Finding-clause-lines c =
    let r = c.args.reporter.now in
    on_ok _ _ c.finding.result _ _ (λ lines problem found.
    finding_printed r.style (string_bytes r.prefix) r.text.now _ c.in-Finding.finding problem lines (rw c.in-Finding.is at found)) c.finding.ensures.lines
