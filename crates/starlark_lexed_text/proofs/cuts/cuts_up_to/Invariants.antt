use Rattle.std.proofs.Common.{◌≤◌, length}
use Rattle.starlark_lexed_text.specs.Inner.LexedTexts.{AreBeyond}
use Rattle.starlark_lexed_text.proofs.cuts.cuts_up_to.Given as goal

abbrev pub invariant-loop-count : goal.invariant-loop-count
invariant-loop-count l = record { inside : l.count ≤ length l.cuts; beyond : AreBeyond l.cuts l.from l.count }

abbrev pub decreases-loop-count : goal.decreases-loop-count
decreases-loop-count l = l.count
