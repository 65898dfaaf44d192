use Rattle.std.proofs.Common.{◌≡◌, ◌+◌, ◌-◌, ◌≤◌, drop, length}
use Rattle.std.specs.List.{prefix_len}
use Rattle.starlark_words.specs.Inner.LineFronts.{is_in_front}
use Rattle.starlark_words.proofs.lines.short_front_len.Given as goal

abbrev pub invariant-loop-len : goal.invariant-loop-len
invariant-loop-len l = record {
  within : l.len ≤ length l.text;
  value : prefix_len (is_in_front l.other) l.text ≡ l.len + prefix_len (is_in_front l.other) (drop l.len l.text);
}

abbrev pub decreases-loop-len : goal.decreases-loop-len
decreases-loop-len l = length l.text - l.len
