use Rattle.std.proofs.Common.{ap, ◌∙◌, sym}
use Rattle.std.proofs.lemmas.Bool.{eqb-true, ltb-false}
use Rattle.starlark_reader.specs.Inner.Pending.{lexemes_after}
use Rattle.starlark_reader.specs.declared.pending.AfterComments.TheVariants as remainder
use Rattle.starlark_reader.proofs.TakenMargins.PendingLexemes.{nothing_left}
use Rattle.starlark_reader.proofs.pending.Pending.is_nothing.Goals as goal

pub returns-in-Dedents : goal.returns-in-Dedents
returns-in-Dedents c = λ is text.
    nothing_left text c.args.self.now (ltb-false _ _ (sym c.has_comments.ensures ∙ c.if-has_comments.false)) (ap lexemes_after c.in-Dedents.is ∙ ap (λ n. lexemes_after (remainder.Dedents c.in-Dedents.at n)) (eqb-true _ _ is))
