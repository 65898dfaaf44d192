use Rattle.starlark_grammar.proofs.Indentation.LayoutTotals.{outcome_balances}
use Rattle.starlark_grammar.proofs.laws.language_laws.balanced_layout.Goals as goal

-- src/laws.rt:31:1
pub returns-clause-front : goal.returns-clause-front
returns-clause-front c = λ table text. (outcome_balances table text).0

-- src/laws.rt:31:1
pub returns-clause-whole : goal.returns-clause-whole
returns-clause-whole c = λ table text. (outcome_balances table text).1

-- src/laws.rt:31:1
pub returns-clause-few : goal.returns-clause-few
returns-clause-few c = λ table text. (outcome_balances table text).2
