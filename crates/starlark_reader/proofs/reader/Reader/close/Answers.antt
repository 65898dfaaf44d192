use Rattle.std.proofs.Common.{[], arith, refl, Some}
use Rattle.starlark_token.specs.TokenViews.{token_view}
use Rattle.starlark_token.specs.declared.tokens.Token.TheVariants as token
use Rattle.starlark_reader.proofs.TakenPieces.Taken.{closed, closing_hands}
use Rattle.starlark_reader.proofs.reader.Reader.close.Goals as goal

pub returns-clause-read : goal.returns-clause-read
unfolding token_view
returns-clause-read c = λ origin history kept ends.
    closed c.args.self.now.text.now history c.args.self.now (Some (c.args.self.now.at, token.Newline, c.args.self.now.at)) _ (record { at = refl; nesting = refl; levels = refl; before = refl }) kept ends (closing_hands c.args.self.now.text.now history c.args.self.now.at c.len.result c.args.self.now.levels c.only-self.result token.Newline refl kept.levels c.len.ensures (c.only-self.ensures c.args.self.now.text.now)) refl

pub returns-clause-passed : goal.returns-clause-passed
returns-clause-passed c =
    let pending = c.only-self.ensures [] in
    ((refl, refl, omega (arith, pending.1.order, pending.1.inside)), refl)
