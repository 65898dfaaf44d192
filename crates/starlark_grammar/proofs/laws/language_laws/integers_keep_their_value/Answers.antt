use Rattle.starlark_grammar.proofs.Words.IntegerValues.{value_is_kept}
use Rattle.starlark_grammar.proofs.laws.language_laws.integers_keep_their_value.Goals as goal

pub returns : goal.returns
returns c = value_is_kept
