use Rattle.std.proofs.Common.{◌∙◌, rules, sym}
use Rattle.starlark_grammar.specs.Inner.Openings.{opening_view}
use Rattle.starlark_words.proofs.LiteralBodies.PlainBodies.{closed_by_three, opened_by_three}
use Rattle.starlark_words.proofs.plain.stop_by.Goals as goal

pub returns-then-closes : goal.returns-then-closes
returns-then-closes c = λ text. closed_by_three (opening_view c.args.opening) c.args.front.now text (sym c.closes.ensures ∙ c.if-closes.true)

pub returns-in-123 : goal.returns-in-123
returns-in-123 c = λ text. opened_by_three (opening_view c.args.opening) c.args.front.now text (sym c.closes.ensures ∙ c.if-closes.false) c.in-123.len_at_least (search rules) c.if-second-ne123.true
