use Rattle.starlark_base.proofs.Resolving.{pieces, joined_lines}
use Rattle.starlark_base.proofs.laws.lines_join_to_the_text.Goals as goal

pub returns-clause-pieces : goal.returns-clause-pieces
returns-clause-pieces c = pieces

pub returns-clause-joined : goal.returns-clause-joined
returns-clause-joined c = joined_lines
