use Rattle.std.proofs.Common.{length, map, string_bytes}
use Rattle.std.specs.Prelude.{Option}
use Rattle.starlark_checks.specs.OpenStack.{never_closed}
use Rattle.starlark_tokens.proofs.ProblemReports.{IsPut}
use Rattle.starlark_tokens.specs.Inner.FoundProblems.{IsHeld, joined_with}
use Rattle.starlark_tokens.specs.Inner.Reporters.{IsReady, Keeps}
use Rattle.starlark_tokens.specs.ToldFaults.Problems.{OfCheck, Problem, told}
use Rattle.starlark_tokens.proofs.reporting.problems.report_open.Given as goal

-- what is to be printed is what was written, and what is printed of the problem that is held and the brackets that are left
abbrev pub invariant-loop-finding : goal.invariant-loop-finding
invariant-loop-finding g l = record {
  ready : IsReady l.reporter;
  kept : Keeps l.fn.reporter l.reporter;
  so_far : (first : Option Problem) → IsHeld l.fn.reporter.text.now l.fn.held first
      → (last : Option Problem) × IsHeld l.fn.reporter.text.now l.held last
      × IsPut g.W.WriteDevice.calls l.fn.reporter.style (string_bytes l.fn.reporter.prefix) l.fn.reporter.text.now l.most l.found l.faults l.fn.writer l.writer
      (told l.fn.reporter.style.filter.now l.fn.reporter.text.now (joined_with first (map OfCheck (never_closed l.fn.checker.stack))))
      (told l.fn.reporter.style.filter.now l.fn.reporter.text.now (joined_with last (map OfCheck (never_closed l.checker.stack))));
}

abbrev pub decreases-loop-finding : goal.decreases-loop-finding
decreases-loop-finding g l = length (never_closed l.checker.stack)
