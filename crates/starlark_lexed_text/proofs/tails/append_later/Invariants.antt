use Rattle.std.proofs.Common.{◌≡◌, ◌+◌, ◌≤◌, ◌++◌, length, map, vec_len}
use Rattle.std.specs.Vec.{vec_capacity}
use Rattle.std.specs.Vec.Iter.{into_iter_items, into_iter_len}
use Rattle.starlark_lexed_text.specs.Inner.LexedTexts.{AllNear, later}
use Rattle.starlark_lexed_text.proofs.tails.append_later.Given as goal

abbrev pub invariant-loop-begin : goal.invariant-loop-begin
invariant-loop-begin l = record {
  all : l.lexemes.items ++ map (later l.len) (into_iter_items l.begin-iterator) ≡ l.initial.lexemes.items ++ map (later l.len) (into_iter_items l.initial.begin-iterator);
  near : AllNear (into_iter_items l.begin-iterator);
  left : into_iter_len l.begin-iterator ≡ length (into_iter_items l.begin-iterator);
  room : vec_len l.lexemes + into_iter_len l.begin-iterator ≤ vec_capacity l.lexemes;
}
