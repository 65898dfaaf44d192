use Rattle.std.proofs.Common.{None, Some, sym, ◌∙◌}
use Rattle.starlark_checks.proofs.UnclosedBrackets.{first_of, popped, rest_of}
use Rattle.starlark_checks.proofs.open_stack.OpenStack.next_unclosed.Goals as goal

pub returns-in-Some-unclosed-clause-first : goal.returns-in-Some-unclosed-clause-first
returns-in-Some-unclosed-clause-first c =
    first_of c.in-Some-unclosed.found _ _
    (popped c.loop-opened.self-inside.items.items c.pop_back.new.self.items c.in-Some.opened (Some c.in-Some-unclosed.found) _ c.in-Some.ensures.items (sym c.in-Some-unclosed.is ∙ c.unclosed.ensures) c.loop-opened.invariant)

pub returns-in-Some-unclosed-clause-rest : goal.returns-in-Some-unclosed-clause-rest
returns-in-Some-unclosed-clause-rest c =
    rest_of c.in-Some-unclosed.found _ _
    (popped c.loop-opened.self-inside.items.items c.pop_back.new.self.items c.in-Some.opened (Some c.in-Some-unclosed.found) _ c.in-Some.ensures.items (sym c.in-Some-unclosed.is ∙ c.unclosed.ensures) c.loop-opened.invariant)

pub loop-opened-preserved : goal.loop-opened-preserved
loop-opened-preserved c =
    popped c.loop-opened.self-inside.items.items c.pop_back.new.self.items c.in-Some.opened None _ c.in-Some.ensures.items (sym c.in_default-unclosed.is ∙ c.unclosed.ensures) c.loop-opened.invariant
