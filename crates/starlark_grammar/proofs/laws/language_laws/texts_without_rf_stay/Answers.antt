use Rattle.starlark_grammar.proofs.Reading.EarlierTable.{tables_agree}
use Rattle.starlark_grammar.proofs.laws.language_laws.texts_without_rf_stay.Goals as goal

pub returns : goal.returns
returns c = tables_agree
