use Rattle.std.proofs.Common.{◌≡◌, ◌+◌, ◌-◌, ◌^◌, ◌++◌, ◌≤◌, count_by, length, min, string_bytes}
use Rattle.starlark_base.specs.Places.{Text}
use Rattle.starlark_tokens.specs.Inner.Reporters.{IsReady, Keeps}
use Rattle.starlark_tokens.specs.Reporting.Reports.{is_fault, items_report}
use Rattle.starlark_tokens.specs.Reporting.ReportWrites.{Took}
use Rattle.starlark_devices.specs.Calls.{Going}
use Rattle.starlark_tokens.proofs.reporting.report.report_left.Given as goal

-- what is to be printed is what was written, and what is printed of the items that are left
abbrev pub invariant-loop-item : goal.invariant-loop-item
invariant-loop-item g l = record {
  ready : IsReady l.reporter;
  kept : Keeps l.fn.reporter l.reporter;
  source : l.lexer.text ≡ l.fn.reporter.text.now;
  written : (done : Text) × Took g.W.WriteDevice.calls Going l.fn.writer l.writer done × (done ++ items_report l.fn.reporter.style (string_bytes l.fn.reporter.prefix) l.fn.reporter.text.now (l.most - l.faults) l.lexer.left ≡ items_report l.fn.reporter.style (string_bytes l.fn.reporter.prefix) l.fn.reporter.text.now l.most l.fn.lexer.left);
  fits : l.faults ≤ 2 ^ 64 - 1;
  counted : min (l.faults + count_by is_fault l.lexer.left) (2 ^ 64 - 1) ≡ min (count_by is_fault l.fn.lexer.left) (2 ^ 64 - 1);
}

abbrev pub decreases-loop-item : goal.decreases-loop-item
decreases-loop-item g l = length l.lexer.left
