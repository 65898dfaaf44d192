use Rattle.std.proofs.Common.{length, ◌-◌, ◌≡◌, ◌+◌, ◌≤◌, count_by, take}
use Rattle.starlark_text.specs.Characters.{starts_character}
use Rattle.starlark_text.proofs.character_search.begin_of.Given as goal

abbrev pub invariant-loop-at : goal.invariant-loop-at
invariant-loop-at l = record {
  within : l.at ≤ length l.bytes;
  counted : count_by starts_character (take l.at l.bytes) + l.left ≡ l.fn.index;
}

abbrev pub decreases-loop-at : goal.decreases-loop-at
decreases-loop-at l = length l.bytes + 1 - l.at
