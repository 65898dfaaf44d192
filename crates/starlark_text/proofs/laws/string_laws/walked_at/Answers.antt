use Rattle.starlark_text.proofs.Characters.{nth_is}
use Rattle.starlark_text.proofs.laws.string_laws.walked_at.Goals as goal

pub returns : goal.returns
returns c = nth_is c.args.text.now c.chars.result c.nth.new.self c.args.index.0 c.nth.result c.chars.ensures.rest c.utf8.text c.nth.ensures.ran
