use Rattle.std.proofs.Common.{◌≡◌, ◌-◌, length, drop}
use Rattle.std.specs.Slice.Iter.{chunks_exact_rest, chunks_exact_size}
use Rattle.starlark_base.proofs.CharacterCounts.{AreStepsTo}
use Rattle.starlark_base.proofs.codemap.character_counts.counts_of_steps.Given as goal

abbrev pub invariant-loop-step : goal.invariant-loop-step
invariant-loop-step l = record {
  can_next : (goal.iterator-loop-step).can_next l.step-iterator;
  finite : (goal.iterator-loop-step).is_finite l.step-iterator;
  size : chunks_exact_size l.step-iterator ≡ 256;
  rest : drop (length l.bytes - length (chunks_exact_rest l.step-iterator)) l.bytes ≡ chunks_exact_rest l.step-iterator;
  steps : AreStepsTo 256 l.bytes l.counts.items (length l.bytes - length (chunks_exact_rest l.step-iterator)) l.count;
}
