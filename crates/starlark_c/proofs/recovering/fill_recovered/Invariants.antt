use Rattle.std.proofs.Common.{length}
use Rattle.starlark_c.proofs.Recovered.{IsDone}
use Rattle.starlark_c.proofs.recovering.fill_recovered.Given as goal

-- the items that aren't left fill the buffers
abbrev pub invariant-loop-item : goal.invariant-loop-item
invariant-loop-item l = IsDone l.fn.lexer.left l.lexer.left (record { lexemes = l.fn.lexemes; values = l.fn.values; faults = l.fn.faults }) (record { lexemes = l.lexemes; values = l.values; faults = l.faults }) l.filled

abbrev pub decreases-loop-item : goal.decreases-loop-item
decreases-loop-item l = length l.lexer.left
