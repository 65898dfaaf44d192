use Rattle.std.proofs.Common.{◌≡◌, ℕ, suc, ◌+◌, ◌<◌, ◌∷◌, [], ap, arith, refl, pos, of_z, to_z, w32, Some}
use Rattle.starlark_grammar.specs.Numbers.{Small, integer_of}
use Rattle.starlark_grammar.specs.Tokens as tokens
use Rattle.starlark_token.specs.TokenViews.{Whole, token_view}
use Rattle.starlark_token.specs.declared.token_int.TokenInt.TheVariants as int
use Rattle.starlark_token.specs.declared.tokens.Token.TheVariants as token
use Rattle.starlark_reader.specs.Inner.Nesting.{keeps_code}
use Rattle.starlark_reader.proofs.TakenPieces.PieceTaken.{digit_step}
use Rattle.starlark_reader.proofs.TakenPieces.SameTexts.{at_step, code_after, taken_here}
use Rattle.starlark_reader.proofs.reader.Reader.take_digit.Goals as goal
use Rattle.starlark_reader.proofs.reader.Reader.take_digit.Goals.{After-from}

-- the value of each digit
digit_value : (digit : ℕ) → digit < 10 → Small (to_z w32 (of_z w32 (pos digit))) ≡ integer_of 10 ((digit + 48) ∷ [])
unfolding integer_of
digit_value (suc (suc (suc (suc (suc (suc (suc (suc (suc (suc digit)))))))))) small = absurd (omega arith)
digit_value digit small = refl

view : (c : After-from) → token_view (token.Int (int.I32 (to_z w32 (of_z w32 c.from.result)))) ≡ Whole (tokens.Int (integer_of 10 ((c.args.digit + 48) ∷ [])))
unfolding token_view
view c = rw c.from.ensures (ap (λ number. Whole (tokens.Int number)) (digit_value c.args.digit c.requires.digit.0))

pub take_token-requires : goal.take_token-requires
take_token-requires c =
    at_step c.args.self.now _ c.requires.sound c.requires.stands.stage c.requires.stands.idle (λ origin history kept. digit_step c.args.self.now.text.now history c.args.self.now c.args.digit (token.Int (int.I32 (to_z w32 (of_z w32 c.from.result)))) kept c.requires.stands c.requires.digit (view c))

pub returns-clause-ahead : goal.returns-clause-ahead
returns-clause-ahead c =
    taken_here c.args.self.now (Some c.take_token.result) c.take_token.new.self c.requires.stands.stage c.requires.stands.idle
    (λ origin history kept. c.take_token.ensures.read origin history kept (digit_step c.args.self.now.text.now history c.args.self.now c.args.digit (token.Int (int.I32 (to_z w32 (of_z w32 c.from.result)))) kept c.requires.stands c.requires.digit (view (goal.at.returns-clause-ahead c).After-from)))

pub returns-clause-code : goal.returns-clause-code
returns-clause-code c = code_after c.args.self.now c.take_token.new.self c.take_token.ensures.text (c.take_token.ensures.onward (c.take_token.ensures.stays (ap keeps_code (view (goal.at.returns-clause-code c).After-from)) c.requires.stands.code))
