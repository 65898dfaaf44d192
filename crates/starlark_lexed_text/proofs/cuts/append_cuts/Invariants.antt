use Rattle.std.proofs.Common.{◌≡◌, ◌+◌, ◌≤◌, ◌++◌, length, map, vec_len}
use Rattle.std.specs.Vec.{vec_capacity}
use Rattle.std.specs.Vec.Iter.{into_iter_items, into_iter_len}
use Rattle.starlark_lexed_text.specs.Inner.LexedTexts.{AllNearCuts, later_cut}
use Rattle.starlark_lexed_text.proofs.cuts.append_cuts.Given as goal

abbrev pub invariant-loop-cut : goal.invariant-loop-cut
invariant-loop-cut l = record {
  all : l.cuts.items ++ map (later_cut l.len l.count) (into_iter_items l.cut-iterator) ≡ l.initial.cuts.items ++ map (later_cut l.len l.count) (into_iter_items l.initial.cut-iterator);
  near : AllNearCuts (into_iter_items l.cut-iterator);
  left : into_iter_len l.cut-iterator ≡ length (into_iter_items l.cut-iterator);
  room : vec_len l.cuts + into_iter_len l.cut-iterator ≤ vec_capacity l.cuts;
}
