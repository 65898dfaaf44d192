use Rattle.std.proofs.Common.{refl, sym, ◌∙◌}
use Rattle.starlark_reader.proofs.TakenPieces.NextLexeme.{fault_next, last_next}
use Rattle.starlark_reader.proofs.reader.Reader.take_fault.Goals as goal

pub returns-in-Fault-clause-last : goal.returns-in-Fault-clause-last
returns-in-Fault-clause-last c = λ origin text lexemes fault end ahead.
    fault_next text c.args.self.now _ lexemes fault c.in-Fault.begin c.in-Fault.fault c.in-Fault.end (record { at = refl; nesting = refl; levels = refl; before = refl }) end.0 (sym c.replace.ensures.value ∙ c.in-Fault.is) ahead

pub returns-in_default-clause-last : goal.returns-in_default-clause-last
returns-in_default-clause-last c = λ origin text lexemes fault end ahead.
    last_next text c.args.self.now _ lexemes fault (record { at = refl; nesting = refl; levels = refl; before = refl }) end.0 refl end.1 (λ begin error end e. c.in_default.not-Fault begin error end (c.replace.ensures.value ∙ e)) c.replace.ensures.after ahead
