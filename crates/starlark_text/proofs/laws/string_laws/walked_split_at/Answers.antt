use Rattle.starlark_text.proofs.Characters.{cut_boundary, cut_here, cut_none}
use Rattle.starlark_text.proofs.laws.string_laws.walked_split_at.Goals as goal

pub split_at-requires : goal.split_at-requires
split_at-requires c = cut_boundary c.args.text.now c.in_ok-rest.rest.now c.args.index.0 c.utf8.text c.in_ok-rest.ensures

pub returns-in_err-rest : goal.returns-in_err-rest
returns-in_err-rest c = rw c.from_residual.ensures (cut_none c.args.text.now c.args.index.0 c.in_err-rest.ensures)

pub returns : goal.returns
returns c = rw (c.split_at.ensures.front, c.split_at.ensures.back) (cut_here c.args.text.now c.in_ok-rest.rest.now c.args.index.0 c.utf8.text c.in_ok-rest.ensures)
