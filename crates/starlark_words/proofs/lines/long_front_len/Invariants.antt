use Rattle.std.proofs.Common.{ℕ, length, ◌+◌, ◌-◌, ◌*◌, ◌≡◌, ◌≤◌, drop}
use Rattle.std.specs.List.{prefix_len}
use Rattle.starlark_words.specs.Inner.LineFronts.{is_in_front}
use Rattle.starlark_words.proofs.lines.long_front_len.Given as goal

abbrev pub invariant-loop-at : goal.invariant-loop-at
invariant-loop-at l = record {
  within : l.at ≤ length l.text;
  value : prefix_len (is_in_front l.other) l.text ≡ l.at + prefix_len (is_in_front l.other) (drop l.at l.text);
  reads : l.reads ≡ l.fn.reads;
  steps : (count : ℕ) × (l.at ≡ l.from + 16 * count);
}

abbrev pub decreases-loop-at : goal.decreases-loop-at
decreases-loop-at l = length l.text + 1 - l.at
