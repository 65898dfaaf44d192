use Rattle.std.proofs.Common.{◌≡◌, ◌+◌, ◌-◌, length}
use Rattle.starlark_tokens.specs.Inner.KnownPositions.{AreKnown}
use Rattle.starlark_tokens.proofs.told_faults.known_positions.KnownPositions.position_from.Given as goal

abbrev pub invariant-loop-self : goal.invariant-loop-self
invariant-loop-self l = record { known : AreKnown l.self; text : l.self.text.now ≡ l.fn.self.text.now }

-- how many parts have to be read
abbrev pub decreases-loop-self : goal.decreases-loop-self
decreases-loop-self l = l.part + 1 - length l.self.known.items
