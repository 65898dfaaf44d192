use Rattle.std.proofs.Common.{◌≡◌, length}
use Rattle.starlark_checks.specs.OpenStack.{from_fstring}
use Rattle.starlark_checks.proofs.open_stack.OpenStack.leave_expression.Given as goal

abbrev pub invariant-loop-innermost : goal.invariant-loop-innermost
invariant-loop-innermost l = from_fstring l.self-inside.items.items ≡ from_fstring l.fn.self

abbrev pub decreases-loop-innermost : goal.decreases-loop-innermost
decreases-loop-innermost l = length l.self-inside.items.items
