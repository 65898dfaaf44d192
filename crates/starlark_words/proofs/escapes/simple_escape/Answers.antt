use Rattle.starlark_words.specs.Inner.LiteralViews.{literal_view}
use Rattle.starlark_words.proofs.LiteralBodies.ReadFronts.{short_by_three}
use Rattle.starlark_words.proofs.escapes.simple_escape.Goals as goal

pub returns : goal.returns
returns c = short_by_three (literal_view c.args.literal) c.args.front.now c.simple_value.result c.in-len2-up.len_at_least c.if-first-ne92.false c.if-literal.false c.simple_value.ensures.value c.simple_value.ensures.ascii
