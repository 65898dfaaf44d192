use Rattle.std.proofs.Common.{◌-◌, ◌*◌, ◌≤◌, length}
use Rattle.std.specs.Str.{IsCharBoundary}
use Rattle.starlark_words.specs.Inner.LiteralViews.{literal_view}
use Rattle.starlark_words.proofs.LiteralBodies.BodySteps.{IsFront}
use Rattle.starlark_words.specs.Inner.Reads.{AreReads}
use Rattle.starlark_words.proofs.body.read_bytes_body.Given as goal

abbrev pub invariant-loop-decoded : goal.invariant-loop-decoded
invariant-loop-decoded l = record {
  front : IsFront (literal_view l.literal) l.text l.len l.decoded.items;
  boundary : IsCharBoundary l.text l.len;
  more : l.run ≤ l.len;
  reads : AreReads (l.len - l.run) (8 * (l.len - l.run)) l.fn.reads l.reads;
}

abbrev pub decreases-loop-decoded : goal.decreases-loop-decoded
decreases-loop-decoded l = length l.text - l.len
