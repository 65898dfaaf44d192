use Rattle.starlark_grammar.proofs.Words.Printed.{words_read_back}
use Rattle.starlark_grammar.proofs.laws.language_laws.printed_words_read_back.Goals as goal

pub returns : goal.returns
returns c = words_read_back
