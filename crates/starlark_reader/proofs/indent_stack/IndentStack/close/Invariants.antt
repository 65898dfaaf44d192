use Rattle.std.proofs.Common.{◌≡◌, ◌≤◌, true, length, nat_lt, drop}
use Rattle.std.specs.List.{list_all}
use Rattle.starlark_reader.proofs.indent_stack.IndentStack.close.Given as goal

abbrev pub invariant-loop-left : goal.invariant-loop-left
invariant-loop-left l = record {
  inside : l.left ≤ length l.fn.self;
  closed : list_all (nat_lt l.width) (drop l.left l.fn.self) ≡ true;
}

abbrev pub decreases-loop-left : goal.decreases-loop-left
decreases-loop-left l = l.left
