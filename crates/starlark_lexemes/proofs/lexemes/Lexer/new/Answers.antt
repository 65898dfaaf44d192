use Rattle.std.proofs.Common.{ap, ◌≤◌, ◌+◌, ◌*◌, length, subst, sym}
use Rattle.starlark_token.specs.TextItems.{items}
use Rattle.starlark_grammar.specs.Words.{Text}
use Rattle.starlark_lexemes.specs.Inner.LexerStates.{StateView}
use Rattle.starlark_lexemes.proofs.LexerCuts.{fresh_view}
use Rattle.starlark_lexemes.proofs.LexerItems.{items_few}
use Rattle.starlark_lexemes.proofs.lexemes.Lexer.new.Goals as goal

pub returns-clause-few : goal.returns-clause-few
returns-clause-few c = subst (λ (t : Text). length (items t) ≤ 2 * length c.args.input.now + 1) (sym (ap (λ (v : StateView). v.text) c.new.ensures.begun.view)) (items_few c.args.input.now)

pub returns-clause-ok : goal.returns-clause-ok
returns-clause-ok c = fresh_view c.new.result c.args.input.now c.args.code_map c.new.ensures.begun.view
