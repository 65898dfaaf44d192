use Rattle.std.proofs.Common.{◌≡◌, length}
use Rattle.starlark_document.specs.Inner.Segments.{AreBounded, faults_from}
use Rattle.starlark_document.proofs.segments.Faults.next.Given as goal

abbrev pub invariant-loop-self : goal.invariant-loop-self
invariant-loop-self l = record {
  same : faults_from l.self-inside.begin l.self-inside.at l.self-inside.segments.now ≡ faults_from l.initial.self-inside.begin l.initial.self-inside.at l.initial.self-inside.segments.now;
  bounded : AreBounded l.self-inside.begin l.self-inside.segments.now;
}

abbrev pub decreases-loop-self : goal.decreases-loop-self
decreases-loop-self l = length l.self-inside.segments.now
