use Rattle.std.proofs.Common.{◌+◌, ◌≤◌, ◌^◌, refl, rules}
use Rattle.starlark_lexemes.proofs.FoundWords.{one_more_fits, past_lexing}
use Rattle.starlark_lexemes.proofs.lexer_state.LexerState.put_taken.Goals as goal

pub overflow_add-self : goal.overflow_add-self
overflow_add-self c =
    let at = c.requires.taken.1 in
    let small : c.args.self.now.yielded_count + 1 ≤ 2 ^ 34 = one_more_fits c.args.self.now at.text at.few in
    search (rules, small)

pub returns : goal.returns
returns c = λ course at.
    let old = c.args.self.now in
    let is = rw c.in-Ok.is at at.ahead in
    record {
      passed = is;
      lexing = past_lexing old _ old.reader c.args.is_at_code c.in-Ok.begin c.in-Ok.end old.value_begin old.value_end c.in-Ok.token refl at.text at.going is (rw c.in-Ok.is at c.requires.read) (rw c.in-Ok.is at c.requires.code);
      after = rw at.going refl;
    }
