use Rattle.std.proofs.Common.{◌≡◌, false, refl, subst, sym}
use Rattle.starlark_reader.specs.Inner.ReadBounds.{HasRead}
use Rattle.starlark_lexemes.specs.Inner.LexerStates.{HasGoneOn, IsLexing}
use Rattle.starlark_lexemes.specs.declared.lexer_state.LexerState.{LexerState}
use Rattle.starlark_lexemes.proofs.FoundWords.{first_margin}
use Rattle.starlark_lexemes.proofs.lexer_state.LexerState.advance_outside_code.Goals as goal

pub returns : goal.returns
returns c = λ course was.
    let stays = c.in-Layout.ensures.stays refl in
    let old = c.pass_pending_token.new.self in
    let lexing = subst (IsLexing course) (sym stays) was in
    let going = subst (λ (state : LexerState). state.has_ended ≡ false) (sym stays) c.requires.going in
    let outside = subst (λ (state : LexerState). state.is_at_code ≡ false) (sym stays) c.requires.out in
    let text = old.reader.text.now in
    let new = c.read_first_margin.new.self in
    let margin = c.in-Ok.ensures in
    let inv = lexing.1 going in
    let ahead = margin.ahead _ _ _ inv.1 in
    let has : HasRead text new = margin.reads (lexing.3 going) in
    subst (λ (state : LexerState). HasGoneOn course state (record old { reader = new; is_at_code = c.is_at_code-self.result })) stays (first_margin old new c.is_at_code-self.result lexing going outside margin.text ahead margin.less has (λ yes. c.is_at_code-self.ensures yes text ahead.is_pending))
