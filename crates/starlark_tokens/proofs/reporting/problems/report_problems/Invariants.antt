use Rattle.std.proofs.Common.{◌≡◌, List, [], length, string_bytes}
use Rattle.std.specs.Prelude.{Option}
use Rattle.starlark_checks.specs.Findings.{Passed}
use Rattle.starlark_checks.specs.Inner.CheckerViews.{HasPassed}
use Rattle.starlark_tokens.proofs.ProblemReports.{IsPut}
use Rattle.starlark_tokens.specs.Inner.FoundProblems.{IsHeld, joined_with}
use Rattle.starlark_tokens.specs.Inner.Reporters.{IsReady, Keeps}
use Rattle.starlark_tokens.specs.ToldFaults.Problems.{Problem, joined, problems_from, told}
use Rattle.starlark_tokens.proofs.reporting.problems.report_problems.Given as goal

-- what is to be printed is what was written, and what is printed of the problem that is held and those of the items that are
-- left
abbrev pub invariant-loop-item : goal.invariant-loop-item
invariant-loop-item g l = record {
  ready : IsReady l.reporter;
  kept : Keeps l.fn.reporter l.reporter;
  source : l.lexer.text ≡ l.fn.reporter.text.now;
  so_far : (before : List Passed) × HasPassed l.fn.reporter.text.now before l.checker
      × ((last : Option Problem) × IsHeld l.fn.reporter.text.now l.held last
      × IsPut g.W.WriteDevice.calls l.fn.reporter.style (string_bytes l.fn.reporter.prefix) l.fn.reporter.text.now l.most 0 l.faults l.fn.writer l.writer
      (told l.fn.reporter.style.filter.now l.fn.reporter.text.now (joined (problems_from l.fn.reporter.text.now [] l.fn.lexer.left)))
      (told l.fn.reporter.style.filter.now l.fn.reporter.text.now (joined_with last (problems_from l.fn.reporter.text.now before l.lexer.left))));
}

abbrev pub decreases-loop-item : goal.decreases-loop-item
decreases-loop-item g l = length l.lexer.left
