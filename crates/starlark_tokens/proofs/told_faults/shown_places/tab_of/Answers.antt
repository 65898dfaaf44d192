use Rattle.std.proofs.Common.{◌∙◌, ap, nat_eq, refl, sym}
use Rattle.std.specs.List.{starts_with}
use Rattle.std.specs.Prelude.{codes}
use Rattle.starlark_tokens.specs.ToldFaults.ShownPlaces.{next_tab, tab_of}
use Rattle.starlark_tokens.proofs.told_faults.shown_places.tab_of.Goals as goal

pub returns-then-begins_with_tab-clause-value : goal.returns-then-begins_with_tab-clause-value
unfolding tab_of
returns-then-begins_with_tab-clause-value c =
    let test = ap (λ t. starts_with nat_eq t (codes "\t")) (sym c.range_from.ensures.value) ∙ sym c.begins_with_tab.ensures ∙ c.if-begins_with_tab.true in
    rw test refl

pub returns-clause-value : goal.returns-clause-value
unfolding tab_of
returns-clause-value c =
    let test = ap (λ t. starts_with nat_eq t (codes "\t")) (sym c.range_from.ensures.value) ∙ sym c.begins_with_tab.ensures ∙ c.if-begins_with_tab.false in
    rw test (c.next_tab.ensures.value ∙ ap (next_tab c.args.text.now) c.margin_line.ensures.value)
