use Rattle.std.proofs.Common.{refl, ap, ◌∙◌}
use Rattle.starlark_c.specs.RecoveredTexts.{capped_counts, sums}
use Rattle.starlark_c.proofs.AddedItems.{lack_lexeme, same_contents}
use Rattle.starlark_c.proofs.recovering.add_lexeme.Goals as goal

pub returns-in-None-clause-takes : goal.returns-in-None-clause-takes
returns-in-None-clause-takes c faults =
    let none = c.in-None.ensures in (
      lack_lexeme none.lacks,
      same_contents _ _ none.lexemes none.values refl,
      c.plus.ensures ∙ ap (λ k. capped_counts (sums c.args.filled k)) (c.lexeme_counts.ensures c.args.filled),
    )
