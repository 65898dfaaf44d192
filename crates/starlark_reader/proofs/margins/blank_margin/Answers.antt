use Rattle.std.proofs.Common.{◌+◌, arith, false, refl, sym}
use Rattle.starlark_reader.proofs.TakenMargins.Blanks.{blank_passed, blanks_margin, one_passed}
use Rattle.starlark_reader.proofs.TakenMargins.PlainMargins.{spaces_and_returns}
use Rattle.starlark_reader.proofs.margins.blank_margin.Goals.{else-len-text, else-len-text-via-else-len-text, else-len-text-via-then-len-text+else-text-len-ne10, else-len-text-2-via-else-len-text-2, else-len-text-2-via-then-len-text-2+else-text-len-ne10-2, then-len-text+then-text-len-ne10+else-text-len-ne13+else-len-text-2}
use Rattle.starlark_reader.proofs.margins.blank_margin.Goals as goal

pub returns-clause-margin : goal.returns-clause-margin
returns-clause-margin c =
    let text = c.args.text.now in
    let spaces = c.args.spaces in
    let passed = blank_passed text spaces false (omega (arith, c.requires.spaces)) c.requires.inside c.requires.next in
    rw c.of_spaces.ensures (elim c.if-len-text.branch [
      | else-len-text w ↦ rw w.len-is (spaces_and_returns text (spaces + 1) spaces passed (λ less. elim w.else-len-text.branch [
        | else-len-text-via-then-len-text+else-text-len-ne10 v ↦ omega (arith, v.if-text-len-ne10.false)
        | else-len-text-via-else-len-text v ↦ absurd (omega (arith, less, v.if-len-text.false))
      ]))
      | then-len-text+then-text-len-ne10+else-text-len-ne13+else-len-text-2 w ↦
          let both = one_passed text (blanks_margin (spaces + 1) spaces false) (blanks_margin (spaces + 1 + 1) spaces false) 13 passed w.if-len-text.true (sym w.if-text-len-ne13.false) refl refl (omega arith) refl in
          rw w.len-is (spaces_and_returns text (spaces + 1 + 1) spaces both (λ less. elim w.else-len-text-2.branch [
            | else-len-text-2-via-then-len-text-2+else-text-len-ne10-2 v ↦ omega (arith, v.if-text-len-ne10-2.false)
            | else-len-text-2-via-else-len-text-2 v ↦ absurd (omega (arith, less, v.if-len-text-2.false))
          ]))
    ])
