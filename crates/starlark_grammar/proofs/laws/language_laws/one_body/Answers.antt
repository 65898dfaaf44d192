use Rattle.starlark_grammar.proofs.Literals.ListedBodies.{body_is, body_is_one, body_is_bad, good_or_bad, good_literal, bad_literal, chunk_body}
use Rattle.starlark_grammar.proofs.Literals.Forms.{one_item}
use Rattle.starlark_grammar.proofs.laws.language_laws.one_body.Goals as goal

pub returns-clause-item : goal.returns-clause-item
returns-clause-item c = one_item

pub returns-clause-is_body : goal.returns-clause-is_body
returns-clause-is_body c = body_is

pub returns-clause-only : goal.returns-clause-only
returns-clause-only c = body_is_one

pub returns-clause-bad : goal.returns-clause-bad
returns-clause-bad c = body_is_bad

pub returns-clause-good_or_bad : goal.returns-clause-good_or_bad
returns-clause-good_or_bad c = good_or_bad

pub returns-clause-token : goal.returns-clause-token
returns-clause-token c = good_literal

pub returns-clause-fault : goal.returns-clause-fault
returns-clause-fault c = bad_literal

pub returns-clause-chunk : goal.returns-clause-chunk
returns-clause-chunk c = chunk_body
