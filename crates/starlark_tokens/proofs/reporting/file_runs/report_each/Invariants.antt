use Rattle.std.proofs.Common.{take}
use Rattle.starlark_tokens.proofs.FileReports.{SoFar}
use Rattle.starlark_tokens.proofs.reporting.file_runs.report_each.Given as goal

-- the sources so far are counted and printed
abbrev pub invariant-loop-done : goal.invariant-loop-done
invariant-loop-done g l = SoFar (g.S.Texts.gives l.fn.texts) g.W.WriteDevice.calls l.fn.style l.fn.sources.lost (take l.done l.fn.sources.all.items) l.fn.screen.output l.screen.output l.summary
