use Rattle.std.proofs.Common.{◌≡◌, length}
use Rattle.starlark_c.specs.Inner.DocumentItems.{AreWithin}
use Rattle.starlark_c.specs.Inner.Recovering.{wanted_on}
use Rattle.starlark_c.proofs.TouchingItems.{items_touching}
use Rattle.starlark_token.specs.TextItems.{Given}
use Rattle.starlark_c.proofs.document_items.want_lexemes.Given as goal

-- with what is left as much is wanted as with all
abbrev pub invariant-loop-begin : goal.invariant-loop-begin
invariant-loop-begin l =
    AreWithin l.left × (wanted_on l.wanted (items_touching Given l.fn.from l.fn.to l.left) ≡ wanted_on l.fn.wanted (items_touching Given l.fn.from l.fn.to l.fn.left))

abbrev pub decreases-loop-begin : goal.decreases-loop-begin
decreases-loop-begin l = length l.left
