use Rattle.std.proofs.Common.{◌≡◌, ◌++◌, map, take}
use Rattle.starlark_lexed_text.specs.Inner.LexedTexts.{moved_cut}
use Rattle.starlark_lexed_text.proofs.cuts.push_moved_cuts.Given as goal

abbrev pub invariant-loop-cut : goal.invariant-loop-cut
invariant-loop-cut l = l.cuts.items ≡ l.initial.cuts.items ++ map (moved_cut l.from l.to) (take l.cut-index l.more)
