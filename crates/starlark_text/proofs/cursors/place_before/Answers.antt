use Rattle.std.specs.Str.{IsCharBoundary}
use Rattle.std.proofs.Common.{subst, sym, ◌-◌, ℕ}
use Rattle.starlark_text.proofs.CursorSteps.{boundary_before}
use Rattle.starlark_text.proofs.cursors.place_before.Goals as goal

pub returns-clause-boundary : goal.returns-clause-boundary
returns-clause-boundary c =
    subst (λ (n : ℕ). IsCharBoundary c.args.text.now (c.args.at - n)) (sym c.len_utf8.ensures.value)
    (boundary_before c.args.text.now c.args.at c.args.c c.utf8.text c.ranges.c.0 c.requires.boundary c.requires.character)
