use Rattle.std.proofs.Common.{◌≡◌, drop, ap, sym, ◌∙◌}
use Rattle.starlark_c.specs.Inner.Recovering.{counts_with, wanted_on}
use Rattle.starlark_c.specs.RecoveredTexts.{capped_counts}
use Rattle.starlark_lexemes.proofs.NextItems.{next_item}
use Rattle.starlark_recovery.specs.RecoveringLexer.{RecoveringView}
use Rattle.starlark_c.proofs.recovering.count_rest.Goals as goal

pub count_item-requires : goal.count_item-requires
count_item-requires c =
    let old = c.loop-item.lexer in
    let first = next_item old.code_map old.left c.in-Some.item c.in-Some.ensures.item in
    record { answered = (old.code_map, (first.next, first.answers)) }

pub loop-item-preserved : goal.loop-item-preserved
loop-item-preserved c =
    let old = c.loop-item.lexer in
    let first = next_item old.code_map old.left c.in-Some.item c.in-Some.ensures.item in
    let counted = c.in-Some-count_item.ensures in
    let goes : c.next.new.self.left ≡ drop 1 old.left = ap (λ (l : RecoveringView). l.left) c.in-Some.ensures.after ∙ counted.going old.left in
    ap (λ k. wanted_on k c.next.new.self.left) (counted.counts old.code_map first.next first.answers)
    ∙ ap (wanted_on (capped_counts (counts_with c.loop-item.wanted first.next))) goes
    ∙ sym (ap (wanted_on c.loop-item.wanted) first.is)
    ∙ c.loop-item.invariant
