use Rattle.std.proofs.Common.{arith}
use Rattle.std.proofs.lemmas.Bool.Decides.{nat_tests}
use Rattle.starlark_grammar.specs.Words.{symbols}
use Rattle.starlark_words.proofs.scanner.names.keyword.Goals as goal

pub returns-in_default : goal.returns-in_default
unfolding symbols
returns-in_default c = grind (arith, nat_tests, c.in_default)
