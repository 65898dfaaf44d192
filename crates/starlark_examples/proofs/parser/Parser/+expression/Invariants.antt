use Rattle.std.proofs.Common.{◌+◌, ◌*◌}
use Rattle.starlark_examples.proofs.parser.Parser.+expression.Given as goal

abbrev pub decreases-call : goal.decreases-call
decreases-call l = 6 * l.depth + 5

abbrev pub decreases-index : goal.decreases-index
decreases-index l = 6 * l.depth + 5

abbrev pub decreases-items : goal.decreases-items
decreases-items l = 6 * l.depth + 4

abbrev pub decreases-sum_before : goal.decreases-sum_before
decreases-sum_before l = 6 * l.depth + 4

abbrev pub decreases-sum : goal.decreases-sum
decreases-sum l = 6 * l.depth + 3

abbrev pub decreases-terms : goal.decreases-terms
decreases-terms l = 6 * l.depth + 2

abbrev pub decreases-operand : goal.decreases-operand
decreases-operand l = 6 * l.depth + 1

abbrev pub decreases-value : goal.decreases-value
decreases-value l = 6 * l.depth
