use Rattle.std.proofs.Common.{◌+◌, ◌-◌, ◌*◌, ◌≤◌, ◌^◌, ap, arith, refl, rules}
use Rattle.starlark_reader.specs.declared.reader.Reader.{Reader}
use Rattle.starlark_reader.proofs.TakenPieces.WordsPassed.{name_stepped, step_in_code, step_taken, word_inside_text}
use Rattle.starlark_lexemes.proofs.FoundWords.{one_more_fits, past_lexing, word_sound}
use Rattle.starlark_lexemes.proofs.LexerReads.{peeked_taken}
use Rattle.starlark_lexemes.proofs.PlainLexemes.{name_passed}
use Rattle.starlark_lexemes.proofs.lexer_state.LexerState.pass_name.Goals as goal

pub overflow_add-self : goal.overflow_add-self
overflow_add-self c = let at = c.requires.1 in let small : c.args.self.now.yielded_count + 1 ≤ 2 ^ 34 = one_more_fits c.args.self.now at.text at.few in search (rules, small)

pub step_over-requires-clause-fits : goal.step_over-requires-clause-fits
step_over-requires-clause-fits c = (word_inside_text c.args.self.now.reader _ (word_sound c.args.self.now _ _ c.requires.1) c.requires.1.stands).1

pub returns : goal.returns
returns c = λ course at.
    let old = c.args.self.now in
    let text = old.reader.text.now in
    let new = c.step_over.new.self in
    let stepped = c.step_over.ensures in
    let sound = word_sound old _ _ at in
    let is = name_stepped old.reader new c.args.len sound at.stands stepped _ _ _ at.ahead in
    let taken = step_taken old.reader new c.args.len _ (word_inside_text old.reader _ sound at.stands).0 stepped in
    let read = peeked_taken text c.args.len (5 * c.args.len - 2) c.args.len old.reader new at.read (omega (arith)) (omega (arith)) (taken.1, taken.2) in
    let same = ap (λ (reader : Reader). reader.text) stepped in
    rw c.valueless.ensures (record {
      passed = name_passed course old old old.reader new c.args.len (refl, refl) at.text.fits at.stands.stage taken.2 at.ahead taken.1.0 is;
      lexing = past_lexing old _ new old.is_at_code old.begin old.end old.value_begin old.value_end old.token same at.text at.going is read (λ yes. step_in_code old.reader new _ c.args.len _ at.stands stepped);
      after = rw (same, at.going) refl;
    })
