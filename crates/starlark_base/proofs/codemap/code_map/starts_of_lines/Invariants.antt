use Rattle.std.proofs.Common.{◌≡◌, ◌+◌, ◌<◌, ◌++◌, All, length, map}
use Rattle.memchr.specs.Find.{Passes}
use Rattle.starlark_base.specs.Places.{is_lf}
use Rattle.starlark_base.specs.Starts.{line_starts}
use Rattle.starlark_base.proofs.codemap.code_map.starts_of_lines.Given as goal

abbrev pub invariant-loop-at : goal.invariant-loop-at
invariant-loop-at l = record {
  can_next : (goal.iterator-loop-at).can_next l.at-iterator;
  finite : (goal.iterator-loop-at).is_finite l.at-iterator;
  inside : All (λ k. (k < length l.source) × Passes is_lf l.source k) l.at-iterator;
  starts : l.starts.items ++ map (λ k. k + 1) l.at-iterator ≡ line_starts l.source;
}
