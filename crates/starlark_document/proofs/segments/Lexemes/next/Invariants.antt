use Rattle.std.proofs.Common.{◌≡◌, length}
use Rattle.starlark_document.specs.Inner.Segments.{AreBounded, lexemes_from}
use Rattle.starlark_document.proofs.segments.Lexemes.next.Given as goal

abbrev pub invariant-loop-self : goal.invariant-loop-self
invariant-loop-self l = record {
  same : lexemes_from l.self-inside.begin l.self-inside.at l.self-inside.segments.now ≡ lexemes_from l.initial.self-inside.begin l.initial.self-inside.at l.initial.self-inside.segments.now;
  bounded : AreBounded l.self-inside.begin l.self-inside.segments.now;
}

abbrev pub decreases-loop-self : goal.decreases-loop-self
decreases-loop-self l = length l.self-inside.segments.now
