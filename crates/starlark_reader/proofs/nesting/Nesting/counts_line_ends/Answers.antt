use Rattle.std.proofs.Common.{◌≡◌, ◌∙◌, ap, false, refl, sym, true}
use Rattle.starlark_grammar.specs.Depths.{Outside, is_balanced, mode_after}
use Rattle.starlark_reader.specs.Inner.Nesting.{mode_view}
use Rattle.starlark_reader.proofs.nesting.Nesting.counts_line_ends.Goals as goal
use Rattle.starlark_reader.proofs.nesting.Nesting.counts_line_ends.Goals.{in-Outside, in_default}

pub returns-then-matches : goal.returns-then-matches
unfolding is_balanced
returns-then-matches c = λ tokens h. elim c.match-matches.branch [
  | in-Outside w ↦ let mode : mode_after tokens ≡ Outside = sym (c.mode.ensures tokens h) ∙ ap mode_view w.in-Outside.is in rw (h.opened, h.closed, mode) refl
  | in_default w ↦ let none : false ≡ true = sym w.matches-is ∙ c.if-matches.true in cc
]
