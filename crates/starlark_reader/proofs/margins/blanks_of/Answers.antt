use Rattle.std.proofs.Common.{◌≡◌, refl, sym, ap, ◌∙◌, ◌+◌, arith}
use Rattle.starlark_reader.specs.declared.margins.Margin.{Margin}
use Rattle.starlark_reader.proofs.TakenMargins.Blanks.{IsPassed, one_passed, spaces_passed}
use Rattle.starlark_reader.proofs.margins.blanks_of.Goals.{in-32, in-9, in-13}
use Rattle.starlark_reader.proofs.margins.blanks_of.Goals as goal

pub loop-byte-init : goal.loop-byte-init
loop-byte-init c = rw c.of_spaces-margin.ensures (record { passed = spaces_passed c.args.text.now c.args.spaces c.requires.known; more = omega arith })

pub loop-byte-preserved : goal.loop-byte-preserved
loop-byte-preserved c =
    let old = c.loop-byte.margin in
    let now = c.match-byte.margin in
    let new : Margin = record now { blanks = now.blanks + 1 } in
    let here = c.in-Some.ensures.lookup.3.1 0 in
    let blanks : new.blanks ≡ old.blanks + 1 = elim c.match-byte.branch [
      | in-32 w ↦ ap (λ (m : Margin). m.blanks + 1) w.margin-is
      | in-9 w ↦ ap (λ (m : Margin). m.blanks + 1) w.margin-is
      | in-13 w ↦ ap (λ (m : Margin). m.blanks + 1) w.margin-is
    ] in
    let passed : IsPassed c.args.text.now new = elim c.match-byte.branch [
      | in-32 w ↦ one_passed c.args.text.now old new 32 c.loop-byte.invariant.passed c.in-Some.ensures.lookup.3.0 (sym w.in-32.is ∙ here) refl (ap (λ (m : Margin). m.blanks + 1) w.margin-is) (ap (λ (m : Margin). m.width) w.margin-is) (ap (λ (m : Margin). m.has_tab) w.margin-is)
      | in-9 w ↦ one_passed c.args.text.now old new 9 c.loop-byte.invariant.passed c.in-Some.ensures.lookup.3.0 (sym w.in-9.is ∙ here) refl (ap (λ (m : Margin). m.blanks + 1) w.margin-is) (omega (arith, ap (λ (m : Margin). m.width) w.margin-is)) (ap (λ (m : Margin). m.has_tab) w.margin-is)
      | in-13 w ↦ one_passed c.args.text.now old new 13 c.loop-byte.invariant.passed c.in-Some.ensures.lookup.3.0 (sym w.in-13.is ∙ here) refl (ap (λ (m : Margin). m.blanks + 1) w.margin-is) (omega (arith, ap (λ (m : Margin). m.width) w.margin-is)) (ap (λ (m : Margin). m.has_tab) w.margin-is)
    ] in
    record { passed = passed; more = omega (arith, blanks, c.loop-byte.invariant.more) }
