use Rattle.std.proofs.Common.{ap, ◌∙◌}
use Rattle.starlark_c.specs.RecoveredTexts.{capped_counts, sums}
use Rattle.starlark_lexemes.proofs.NextItems.{answers_fault, answers_lexeme}
use Rattle.starlark_c.proofs.recovering.count_item.Goals as goal

pub returns-in-Ok-clause-counts : goal.returns-in-Ok-clause-counts
returns-in-Ok-clause-counts c file found answers =
    rw (answers_lexeme file found c.in-Ok.lexeme (rw c.in-Ok.is at answers)) (c.plus.ensures ∙ ap (λ k. capped_counts (sums c.args.wanted k)) (c.lexeme_counts.ensures c.args.wanted))

pub returns-in-Err-Error-clause-counts : goal.returns-in-Err-Error-clause-counts
returns-in-Err-Error-clause-counts c file found answers =
    let item = answers_fault file found c.in-Err-Error.exception (rw (c.in-Err-Error.is, c.in-Err-Error.field-0-is) at answers) in
    rw item.is (c.plus-in-Err-Error.ensures ∙ ap (λ k. capped_counts (sums c.args.wanted k)) (c.fault_counts.ensures file item.fault c.args.wanted item.thrown))
