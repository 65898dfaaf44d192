use Rattle.std.proofs.Common.{◌∙◌, ◌-◌, ◌^◌, ◌∷◌, [], ap, arith, min, sym}
use Rattle.std.proofs.lemmas.Iterator.{YieldsList-from_chars, YieldsList-from_take}
use Rattle.std.proofs.lemmas.Iterator.Consumers.{YieldsList-end}
use Rattle.std.proofs.lemmas.List.{map-id}
use Rattle.std.proofs.lemmas.List.Sums.{sum_by-append}
use Rattle.std.specs.Prelude.{sum_by}
use Rattle.starlark_tokens.specs.OutputFormats.ItemLines.{shown_width}
use Rattle.starlark_tokens.proofs.output_formats.fault_lines.columns.Goals as goal

pub loop-character-preserved : goal.loop-character-preserved
loop-character-preserved c =
    let all = sum_by-append shown_width c.loop-character.yielded (c.in-Some.character ∷ []) in
    omega (arith, all, c.loop-character.invariant, c.shown_width.ensures, c.saturating_add-sum.ensures)

pub returns : goal.returns
returns c =
    let all = YieldsList-end (YieldsList-from_take c.args.count (YieldsList-from_chars c.args.text.now c.utf8.text cc) cc) c.loop-character.yielded _ c.loop-character.yielded_by _ _ c.in-None.is c.next.ensures.steps in
    c.loop-character.invariant
    ∙ ap (λ cs. min (sum_by shown_width cs) (2 ^ 64 - 1)) (sym (map-id c.loop-character.yielded) ∙ all.0)
