use Rattle.std.proofs.Common.{ap, ◌∙◌}
use Rattle.std.proofs.lemmas.List.{length-take-le}
use Rattle.starlark_c.specs.Endings.{lexemes_of}
use Rattle.starlark_c.specs.declared.endings.Filled.{Filled}
use Rattle.starlark_c.specs.declared.fill_state.FillState.{FillState}
use Rattle.starlark_c.specs.TextParts.{home}
use Rattle.starlark_c.proofs.LastStops.{last_here, last_stays}
use Rattle.starlark_c.proofs.Stops.{stop_at}
use Rattle.starlark_c.proofs.filling.stop_after.Goals as goal

pub returns-then-not-may_stop-clause-last : goal.returns-then-not-may_stop-clause-last
returns-then-not-may_stop-clause-last c = last_stays c.args.text.now c.args.lexer.now.yielded_count c.args.progress.now.stop c.requires.may.some c.requires.may.last (λ at is. c.requires.none c.if-not-may_stop.true at is.cut)

pub returns-in-Some-clause-stop : goal.returns-in-Some-clause-stop
returns-in-Some-clause-stop c = rw (ap (λ (p : FillState). p.stop) c.set_stop.ensures) (stop_at (home c.args._stays c.args.text.now) c.args.text.now c.args.lexer.now.yielded_count c.in-Some.at c.args.progress.now c.requires.may c.in-Some.ensures.cut)

pub returns-in-Some-clause-last : goal.returns-in-Some-clause-last
returns-in-Some-clause-last c =
    let may = c.requires.may in
    let count = ap (λ (p : FillState). p.stop.filled.lexemes) c.set_stop.ensures ∙ ap (λ (f : Filled). f.lexemes) may.filled ∙ length-take-le c.args.lexer.now.yielded_count (lexemes_of c.args.text.now) may.few in
    last_here c.args.text.now c.args.lexer.now.yielded_count c.set_stop.new.self.stop count

pub returns-in_default-clause-last : goal.returns-in_default-clause-last
returns-in_default-clause-last c = last_stays c.args.text.now c.args.lexer.now.yielded_count c.args.progress.now.stop c.requires.may.some c.requires.may.last (λ at is. let found = c.cut_of.ensures.found c.requires.known at is in cc)
