use Rattle.std.proofs.Common.{◌≡◌, ◌+◌, ◌-◌, ◌≤◌, drop, length, nat_eq}
use Rattle.std.specs.List.{prefix_len}
use Rattle.starlark_words.proofs.reads.uncounted_spaces_len.Given as goal

abbrev pub invariant-loop-len : goal.invariant-loop-len
invariant-loop-len l = record {
  within : l.len ≤ length l.text;
  value : prefix_len (nat_eq 32) l.text ≡ l.len + prefix_len (nat_eq 32) (drop l.len l.text);
}

abbrev pub decreases-loop-len : goal.decreases-loop-len
decreases-loop-len l = length l.text - l.len
