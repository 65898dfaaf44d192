use Rattle.starlark_grammar.proofs.Found.CutItems.{newlines_cut_found}
use Rattle.starlark_grammar.proofs.Found.Cuts.{last_newlines_close, newlines_close}
use Rattle.starlark_grammar.proofs.laws.found_laws.newlines_close.Goals as goal

pub returns-clause-plain : goal.returns-clause-plain
returns-clause-plain c = newlines_close

pub returns-clause-cut : goal.returns-clause-cut
returns-clause-cut c = newlines_cut_found

pub returns-clause-last : goal.returns-clause-last
returns-clause-last c = last_newlines_close
