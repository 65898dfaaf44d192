use Rattle.std.proofs.Common.{◌≡◌, length}
use Rattle.starlark_checks.specs.OpenStack.{never_closed}
use Rattle.starlark_checks.proofs.open_stack.OpenStack.next_unclosed.Given as goal

abbrev pub invariant-loop-opened : goal.invariant-loop-opened
invariant-loop-opened l = never_closed l.self-inside.items.items ≡ never_closed l.fn.self

abbrev pub decreases-loop-opened : goal.decreases-loop-opened
decreases-loop-opened l = length l.self-inside.items.items
