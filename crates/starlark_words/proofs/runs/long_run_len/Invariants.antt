use Rattle.std.proofs.Common.{ℕ, length, ◌+◌, ◌-◌, ◌*◌, ◌≡◌, ◌≤◌, drop}
use Rattle.std.specs.List.{prefix_len}
use Rattle.starlark_words.specs.Inner.PlainRuns.{is_in_run}
use Rattle.starlark_words.specs.Inner.LiteralViews.{literal_view}
use Rattle.starlark_words.proofs.runs.long_run_len.Given as goal

abbrev pub invariant-loop-at : goal.invariant-loop-at
invariant-loop-at l = record {
  within : l.at ≤ length l.bytes;
  value : prefix_len (is_in_run (literal_view l.literal)) l.bytes ≡ l.at + prefix_len (is_in_run (literal_view l.literal)) (drop l.at l.bytes);
  reads : l.reads ≡ l.fn.reads;
  steps : (count : ℕ) × (l.at ≡ 16 * count);
}

abbrev pub decreases-loop-at : goal.decreases-loop-at
decreases-loop-at l = length l.bytes + 1 - l.at
