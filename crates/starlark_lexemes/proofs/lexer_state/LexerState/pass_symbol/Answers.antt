use Rattle.std.proofs.Common.{◌+◌, ◌-◌, ◌*◌, ◌≤◌, ◌^◌, arith, refl, rules}
use Rattle.starlark_lexemes.specs.declared.passed.Kind.TheVariants as kind
use Rattle.starlark_lexemes.proofs.FoundWords.{one_more_fits, past_lexing}
use Rattle.starlark_lexemes.proofs.LexerReads.{peeked_taken}
use Rattle.starlark_lexemes.proofs.PlainLexemes.{valueless_passed}
use Rattle.starlark_lexemes.proofs.lexer_state.LexerState.pass_symbol.Goals as goal

pub overflow_add-self : goal.overflow_add-self
overflow_add-self c = let at = c.requires.here.1 in let small : c.args.self.now.yielded_count + 1 ≤ 2 ^ 34 = one_more_fits c.args.self.now at.text at.few in search (rules, small)

pub returns : goal.returns
returns c = λ course at.
    let old = c.args.self.now in
    let lexeme = c.take_terminal-begin.result in
    let is = c.take_terminal-begin.ensures.ahead _ _ _ at.ahead in
    let taken = c.take_terminal-begin.ensures.taken in
    let other = c.take_terminal-begin.ensures.other c.requires.other in
    let new = c.take_terminal-begin.new.self in
    let read = peeked_taken old.reader.text.now c.args.len (5 * c.args.len - 2) c.args.len old.reader new at.read (omega (arith)) (omega (arith)) (taken.1, taken.2) in
    rw c.valueless.ensures (record {
      passed = valueless_passed course old (kind.Word c.args.terminal) lexeme (record old { reader = new; yielded_count = old.yielded_count + 1 }) refl at.text (λ value. other.0) is;
      lexing = past_lexing old _ new old.is_at_code old.begin old.end old.value_begin old.value_end old.token c.take_terminal-begin.ensures.text at.text at.going is read (λ yes. c.take_terminal-begin.ensures.code other.1);
      after = rw (c.take_terminal-begin.ensures.text, at.going) refl;
    })
