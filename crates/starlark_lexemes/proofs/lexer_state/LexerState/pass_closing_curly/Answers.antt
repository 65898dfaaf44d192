use Rattle.std.proofs.Common.{◌+◌, ◌-◌, ◌*◌, ◌≤◌, ◌^◌, arith, refl, rules}
use Rattle.starlark_lexemes.proofs.FoundWords.{one_more_fits, past_lexing}
use Rattle.starlark_lexemes.proofs.LexerReads.{peeked_taken}
use Rattle.starlark_lexemes.proofs.PlainLexemes.{plain_counts, valueless_passed}
use Rattle.starlark_lexemes.proofs.lexer_state.LexerState.pass_closing_curly.Goals as goal

pub put_plain-requires : goal.put_plain-requires
put_plain-requires c =
    let at = c.requires.1 in
    let small : c.args.self.now.yielded_count + 1 ≤ 2 ^ 34 = one_more_fits c.args.self.now at.text at.few in
    search (rules, small)

pub returns : goal.returns
returns c = λ course at.
    let old = c.args.self.now in
    let lexeme = c.take_terminal-begin.result in
    let is = c.take_terminal-begin.ensures.ahead _ _ _ at.ahead in
    let taken = c.take_terminal-begin.ensures.taken in
    let new = c.take_terminal-begin.new.self in
    let read = peeked_taken old.reader.text.now c.args.len (5 * c.args.len - 2) c.args.len old.reader new at.read (omega (arith)) (omega (arith)) (taken.1, taken.2) in
    let kind = c.closing_curly_kind.ensures in
    let one = plain_counts c.closing_curly_kind.result kind.plain in
    rw (c.put_plain.ensures.0, c.put_plain.ensures.1) (record {
      passed = valueless_passed course old c.closing_curly_kind.result lexeme _ kind.plain at.text kind.token is;
      lexing = past_lexing old _ new c.stays_in_code-self.result lexeme.0 lexeme.2 lexeme.2 lexeme.2 old.token c.take_terminal-begin.ensures.text at.text at.going is read (λ yes. c.take_terminal-begin.ensures.code (c.stays_in_code-self.ensures yes));
      after = rw (c.take_terminal-begin.ensures.text, at.going, one.0, one.1) refl;
    })
