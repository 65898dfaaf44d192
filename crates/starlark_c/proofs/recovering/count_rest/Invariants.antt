use Rattle.std.proofs.Common.{◌≡◌, length}
use Rattle.starlark_c.specs.Inner.Recovering.{wanted_on}
use Rattle.starlark_c.proofs.recovering.count_rest.Given as goal

-- with the items that are left as much is wanted as with all
abbrev pub invariant-loop-item : goal.invariant-loop-item
invariant-loop-item l = wanted_on l.wanted l.lexer.left ≡ wanted_on l.fn.wanted l.fn.lexer.left

abbrev pub decreases-loop-item : goal.decreases-loop-item
decreases-loop-item l = length l.lexer.left
