use Rattle.std.proofs.Common.{◌-◌, ◌*◌, ◌≤◌, ◌++◌, drop, length, string_bytes, take}
use Rattle.std.specs.Str.{IsCharBoundary}
use Rattle.starlark_words.specs.Inner.LiteralViews.{literal_view}
use Rattle.starlark_words.proofs.LiteralBodies.BodySteps.{IsFront}
use Rattle.starlark_words.specs.Inner.Reads.{AreReads}
use Rattle.starlark_words.proofs.body.read_text_body.Given as goal

abbrev pub invariant-loop-rest : goal.invariant-loop-rest
invariant-loop-rest l = record {
  front : IsFront (literal_view l.literal) l.text l.len (string_bytes l.decoded ++ take (l.len - l.copied) (drop l.copied l.text));
  copied : l.copied ≤ l.len;
  start : IsCharBoundary l.text l.copied;
  boundary : IsCharBoundary l.text l.len;
  more : l.run ≤ l.len;
  reads : AreReads (l.len - l.run) (8 * (l.len - l.run)) l.fn.reads l.reads;
}

abbrev pub decreases-loop-rest : goal.decreases-loop-rest
decreases-loop-rest l = length l.text - l.len
