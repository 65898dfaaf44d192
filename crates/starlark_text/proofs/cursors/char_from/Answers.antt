use Rattle.starlark_text.proofs.CursorSteps.{after_next, before_next}
use Rattle.starlark_text.proofs.cursors.char_from.Goals as goal

pub returns-clause-remainder : goal.returns-clause-remainder
returns-clause-remainder c = after_next c.args.text.now c.range_from.result.now c.args.at c.chars.result c.next.new.self c.next.result c.requires.0 c.range_from.utf8 c.range_from.ensures.value c.chars.ensures.rest c.next.ensures.steps

pub returns-clause-before : goal.returns-clause-before
returns-clause-before c = before_next c.args.text.now c.range_from.result.now c.args.at c.chars.result c.next.new.self c.next.result c.range_from.ensures.value c.chars.ensures.rest c.next.ensures.steps
