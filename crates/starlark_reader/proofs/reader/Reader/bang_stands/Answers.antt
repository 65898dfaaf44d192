use Rattle.std.proofs.Common.{◌≡◌, ◌&&◌, ◌∙◌, ap, drop, sym, take}
use Rattle.std.proofs.Math.Bool.{and-false}
use Rattle.starlark_grammar.specs.Depths.{mode_after}
use Rattle.starlark_grammar.specs.Pieces.{is_bang, takes_bang}
use Rattle.starlark_reader.specs.Inner.Nesting.{mode_view}
use Rattle.starlark_reader.proofs.TakenPieces.CodePlaces.{bang_in_two}
use Rattle.starlark_reader.proofs.TakenPieces.PieceTaken.{bang_read, no_gap}
use Rattle.starlark_reader.proofs.reader.Reader.bang_stands.Goals as goal
use Rattle.starlark_reader.proofs.reader.Reader.bang_stands.Goals.{After-is_bang}

front : (c : After-is_bang) → is_bang (drop c.args.self.now.at c.args.self.now.text.now) ≡ c.is_bang.result
front c = sym (c.is_bang.ensures ∙ ap is_bang c.front-front.ensures.bytes ∙ ap (λ t. is_bang (take 2 t)) (c.as_bytes.ensures.value ∙ c.range_from.ensures.value) ∙ bang_in_two (drop c.args.self.now.at c.args.self.now.text.now))

pub returns-in-AtTop-default-clause-stands : goal.returns-in-AtTop-default-clause-stands
returns-in-AtTop-default-clause-stands c = λ yes. record {
  stage = c.requires.code.stage;
  idle = c.requires.code.idle;
  code = c.requires.code.code;
  stands = λ origin history kept. bang_read c.args.self.now.text.now history (record c.args.self.now { reads = c.front-front.new.self }) (sym (c.mode.ensures history.tokens kept.nesting) ∙ ap mode_view c.in-AtTop-default.is-0)
      (no_gap c.args.self.now.before history.before c.in-AtTop-default.not-Gap-1 kept.before) (front c ∙ yes);
}

pub returns-in-AtTop-default-clause-other : goal.returns-in-AtTop-default-clause-other
returns-in-AtTop-default-clause-other c = λ no origin history kept. ap (λ b. takes_bang (mode_after history.tokens) history.before && b) (front c ∙ no) ∙ and-false (takes_bang (mode_after history.tokens) history.before)
