use Rattle.std.proofs.Common.{◌≡◌, true, ◌∙◌, List, Some, ap, refl, sym}
use Rattle.starlark_grammar.specs.Depths.{mode_after}
use Rattle.starlark_grammar.specs.Pieces.{terminal_token}
use Rattle.starlark_grammar.specs.Tokens.{Token, Word}
use Rattle.starlark_grammar.specs.declared.class.Terminal.{Terminal}
use Rattle.starlark_grammar.specs.declared.class.Terminal.TheVariants as terminals
use Rattle.starlark_token.specs.TokenViews.{Whole, token_view}
use Rattle.starlark_reader.specs.Inner.Nesting.{Represents, keeps_code}
use Rattle.starlark_reader.proofs.TakenPieces.PieceTaken.{brace_deeper, other_terminal, terminal_shown, terminal_step}
use Rattle.starlark_reader.proofs.TakenPieces.SameTexts.{at_step, state_here, taken_here}
use Rattle.starlark_reader.proofs.reader.Reader.take_terminal.Goals as goal
use Rattle.starlark_reader.proofs.reader.Reader.take_terminal.Goals.{After-take_token-arg-1}

view : (c : After-take_token-arg-1) (tokens : List Token) → Represents tokens c.args.self.now.nesting → token_view c.match-terminal.token ≡ Whole (terminal_token (mode_after tokens) c.args.terminal)
unfolding token_view
view c tokens same = elim c.match-terminal.branch [
  | goal.in-ClosingCurly+in-AtTop w ↦ rw (w.token-is, w.in-ClosingCurly.is, ← w.mode.ensures tokens same, w.in-AtTop.is) refl
  | goal.in-ClosingCurly+in_default-mode w ↦ rw (w.token-is, w.in-ClosingCurly.is, ← w.mode.ensures tokens same) (ap Whole (sym (brace_deeper w.mode.result w.in_default-mode.not-AtTop)))
  | goal.in_default w ↦ rw w.token-is (w.own_token-token.ensures ∙ ap Whole (sym (other_terminal (mode_after tokens) c.args.terminal w.in_default.not-ClosingCurly)))
]

word_keeps : (terminal : Terminal) → (terminal ≡ terminals.ClosingCurly → ⊥) → keeps_code (Whole (Word terminal)) ≡ true
word_keeps terminals.ClosingCurly other = absurd (other refl)
word_keeps terminal other = refl

pub take_token-requires : goal.take_token-requires
take_token-requires c =
    at_step c.args.self.now _ c.requires.sound c.requires.stands.stage c.requires.stands.idle
    (λ origin history kept. terminal_step c.args.self.now.text.now history c.args.self.now c.args.terminal c.args.len c.match-terminal.token kept c.requires.stands (view (goal.at.take_token-requires c).After-take_token-arg-1 history.tokens kept.nesting))

pub returns-clause-ahead : goal.returns-clause-ahead
returns-clause-ahead c =
    taken_here c.args.self.now (Some c.take_token.result) c.take_token.new.self c.requires.stands.stage c.requires.stands.idle
    (λ origin history kept. c.take_token.ensures.read origin history kept (terminal_step c.args.self.now.text.now history c.args.self.now c.args.terminal c.args.len c.match-terminal.token kept c.requires.stands (view (goal.at.returns-clause-ahead c).After-take_token-arg-1 history.tokens kept.nesting)))

pub returns-clause-token : goal.returns-clause-token
returns-clause-token c =
    let left = state_here c.args.self.now c.requires.sound c.requires.stands.stage in
    terminal_shown _ c.args.terminal _ (ap token_view c.take_token.ensures.token ∙ view (goal.at.returns-clause-token c).After-take_token-arg-1 left.1.tokens left.2.nesting)

pub returns-clause-other : goal.returns-clause-other
returns-clause-other c = λ other.
    let left = state_here c.args.self.now c.requires.sound c.requires.stands.stage in
    let is = view (goal.at.returns-clause-other c).After-take_token-arg-1 left.1.tokens left.2.nesting ∙ ap Whole (other_terminal (mode_after left.1.tokens) c.args.terminal other) in
    (ap token_view c.take_token.ensures.token ∙ is, c.take_token.ensures.stays (ap keeps_code is ∙ word_keeps c.args.terminal other) c.requires.stands.code)
