use Rattle.starlark_grammar.proofs.Joining.Laws.{kept_cuts_keep}
use Rattle.starlark_grammar.proofs.laws.text_laws.kept_cuts_keep.Goals as goal

pub returns : goal.returns
returns c = kept_cuts_keep
