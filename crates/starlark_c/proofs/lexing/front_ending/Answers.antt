use Rattle.std.proofs.Common.{arith, sym, ◌∙◌}
use Rattle.starlark_c.proofs.LastStops.{front_ends, front_stops}
use Rattle.starlark_c.proofs.Stops.{front_cut, front_stays}
use Rattle.starlark_c.proofs.lexing.front_ending.Goals as goal

pub returns-then-stop-eq0-clause-ends : goal.returns-then-stop-eq0-clause-ends
returns-then-stop-eq0-clause-ends c home text before after ends = front_stays home text before after c.args.ending c.args.stop ends (λ some over. omega (arith, some, c.if-stop-eq0.true))

pub returns-then-is_past_stop-clause-ends : goal.returns-then-is_past_stop-clause-ends
returns-then-is_past_stop-clause-ends c home text before after ends = front_cut home text before after c.args.ending c.args.stop ends c.if-stop-eq0.false (sym c.is_past_stop.ensures ∙ c.if-is_past_stop.true)

pub returns-clause-ends : goal.returns-clause-ends
returns-clause-ends c home text before after ends = front_stays home text before after c.args.ending c.args.stop ends (λ some over. let no = sym c.is_past_stop.ensures ∙ c.if-is_past_stop.false in cc)

pub returns-then-stop-eq0-clause-last : goal.returns-then-stop-eq0-clause-last
returns-then-stop-eq0-clause-last c home text before after ends = front_ends home text before after c.args.ending c.args.stop ends (λ some over. omega (arith, some, c.if-stop-eq0.true))

pub returns-then-is_past_stop-clause-last : goal.returns-then-is_past_stop-clause-last
returns-then-is_past_stop-clause-last c home text before after ends = front_stops home text before after c.args.ending c.args.stop ends (sym c.is_past_stop.ensures ∙ c.if-is_past_stop.true)

pub returns-clause-last : goal.returns-clause-last
returns-clause-last c home text before after ends = front_ends home text before after c.args.ending c.args.stop ends (λ some over. let no = sym c.is_past_stop.ensures ∙ c.if-is_past_stop.false in cc)
