use Rattle.std.proofs.Common.{◌-◌, length}
use Rattle.starlark_grammar.specs.Reading.{outcome}
use Rattle.starlark_lexed_text.proofs.Collected.{AreCutsSoFar, IsCollected}
use Rattle.starlark_lexed_text.proofs.read_parts.read_part.Given as goal

abbrev pub invariant-loop-item : goal.invariant-loop-item
invariant-loop-item l =
    record { collected : IsCollected l.fn.state.reader.text.now l.state l.lexemes.items; cuts : AreCutsSoFar l.fn.state.reader.text.now (length l.lexemes.items) l.cuts.items }

abbrev pub decreases-loop-item : goal.decreases-loop-item
decreases-loop-item l = length (outcome l.fn.state.reader.text.now).lexemes - length l.lexemes.items
