use Rattle.std.proofs.Common.{◌-◌, ◌*◌, length}
use Rattle.std.specs.Prelude.{min}
use Rattle.starlark_words.specs.Inner.Reads.{AreReads}
use Rattle.starlark_reader.proofs.TakenMargins.MarginLines.{ArePassed}
use Rattle.starlark_reader.proofs.margins.margin_from.Given as goal

abbrev pub invariant-loop-at : goal.invariant-loop-at
invariant-loop-at l = record {
  passed : ArePassed l.text l.at;
  reads : AreReads (l.at - min l.spaces l.at) (5 * l.at - min l.at 1 - min l.spaces l.at) l.fn.reads l.reads;
}

abbrev pub decreases-loop-at : goal.decreases-loop-at
decreases-loop-at l = length l.text - l.at
