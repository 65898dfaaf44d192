use Rattle.std.proofs.Common.{◌∙◌, List, arith, subst, sym}
use Rattle.starlark_grammar.specs.Tokens.{Token}
use Rattle.starlark_reader.specs.Inner.Nesting.{Represents}
use Rattle.starlark_reader.proofs.OpenBrackets.QuoteBytes.{next_byte, no_byte}
use Rattle.starlark_reader.proofs.nesting.Nesting.pass_quote.Goals as goal

pub loop-at-preserved : goal.loop-at-preserved
loop-at-preserved c = (
  omega (arith, c.loop-at-test.true),
  omega (arith, c.loop-at.invariant.1, c.pass_byte.ensures.count),
  λ tokens before.
      let so_far = c.loop-at.invariant.2 tokens before in
      (_, c.pass_byte.ensures.passes so_far.0 so_far.1, next_byte so_far.0 c.args.bytes.now c.loop-at.at 0 c.loop-at-test.true ∙ so_far.2),
)

pub returns : goal.returns
returns c = record {
  passes = λ tokens before.
      let so_far = c.loop-at.invariant.2 tokens before in
      subst (λ (ts : List Token). Represents ts c.loop-at.self) (sym (no_byte so_far.0 c.args.bytes.now c.loop-at.at (omega (arith, c.loop-at-test.false))) ∙ so_far.2) so_far.1;
  count = omega (arith, c.loop-at.invariant.0, c.loop-at.invariant.1);
}
