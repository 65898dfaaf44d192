use Rattle.std.proofs.Common.{◌≡◌, ◌+◌, ◌-◌, ◌≤◌, drop, get_or, length, nat_eq}
use Rattle.std.specs.List.{prefix_len}
use Rattle.starlark_words.proofs.scanner.gap_and_next.Given as goal

abbrev pub invariant-loop-next : goal.invariant-loop-next
invariant-loop-next l = record {
  within : l.len ≤ length l.bytes;
  value : prefix_len (nat_eq 32) l.bytes ≡ l.len + prefix_len (nat_eq 32) (drop l.len l.bytes);
  next : l.next ≡ get_or l.bytes l.len 0;
}

abbrev pub decreases-loop-next : goal.decreases-loop-next
decreases-loop-next l = length l.bytes - l.len
