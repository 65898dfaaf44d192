use Rattle.std.proofs.Common.{[], length}
use Rattle.starlark_c.specs.Inner.DocumentItems.{AreWithin}
use Rattle.starlark_c.proofs.Recovered.{IsDone}
use Rattle.starlark_c.proofs.TouchingItems.{items_touching}
use Rattle.starlark_token.specs.TextItems.{Refused}
use Rattle.starlark_c.proofs.document_items.fill_faults.Given as goal

-- the items that aren't left fill the buffers
abbrev pub invariant-loop-begin : goal.invariant-loop-begin
invariant-loop-begin l =
    AreWithin l.left
    × IsDone (items_touching Refused l.fn.from l.fn.to l.fn.left) (items_touching Refused l.fn.from l.fn.to l.left) (record { lexemes = []; values = l.fn.values; faults = l.fn.faults }) (record { lexemes = []; values = l.values; faults = l.faults }) l.filled

abbrev pub decreases-loop-begin : goal.decreases-loop-begin
decreases-loop-begin l = length l.left
