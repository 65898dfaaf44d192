use Rattle.std.proofs.Common.{List, refl, subst, sym, ◌∙◌, true}
use Rattle.std.proofs.lemmas.Bool.{lt-ltb}
use Rattle.starlark_grammar.specs.Tokens as grammar
use Rattle.starlark_grammar.specs.declared.class.Terminal.TheVariants.{ClosingRound, OpeningRound}
use Rattle.starlark_token.specs.TokenViews.{token_view}
use Rattle.starlark_reader.specs.Inner.Nesting.{Represents}
use Rattle.starlark_reader.proofs.OpenBrackets.QuoteBytes.{closed_byte, opened_byte}
use Rattle.starlark_reader.proofs.nesting.Nesting.pass_byte.Goals as goal

pub returns-then-opens_bracket-clause-passes : goal.returns-then-opens_bracket-clause-passes
unfolding token_view
returns-then-opens_bracket-clause-passes c = λ tokens before.
    subst (λ (ts : List grammar.Token). Represents ts c.pass.new.self) (opened_byte c.args.byte tokens (sym c.opens_bracket.ensures ∙ c.if-opens_bracket.true))
    (c.pass.ensures.passes tokens (grammar.Word OpeningRound) refl refl (λ curly. cc) before)

pub returns-then-self-clause-passes : goal.returns-then-self-clause-passes
unfolding token_view
returns-then-self-clause-passes c = λ tokens before.
    subst (λ (ts : List grammar.Token). Represents ts c.pass-then-self.new.self)
    (closed_byte c.args.byte tokens (sym c.opens_bracket.ensures ∙ c.if-opens_bracket.false) (sym c.closes_bracket.ensures ∙ c.if-closes_bracket.true) (rw (← before.opened, ← before.closed) (lt-ltb c.args.self.now.closed c.args.self.now.opened c.if-self.true)))
    (c.pass-then-self.ensures.passes tokens (grammar.Word ClosingRound) refl refl (λ curly. cc) before)
