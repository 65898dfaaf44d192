use Rattle.std.proofs.Common.{◌≡◌, ◌+◌, false, length, take, refl, ap, sym, ◌∙◌, arith, inl, inr}
use Rattle.starlark_c.specs.Endings.{all_values, lexemes_of}
use Rattle.starlark_c.specs.Records.{values}
use Rattle.starlark_c.specs.TextParts.{home}
use Rattle.starlark_c.proofs.YieldedItems.{next_fault, next_lexeme, next_none}
use Rattle.starlark_c.proofs.Wanted.{all_bytes, cut_found, more_values, no_cut_found, piece_of_all, piece_to_cut, uncut_more, wanted_all, wanted_fault, wanted_more}
use Rattle.starlark_lexemes.specs.Lexer.{LexerView}
use Rattle.starlark_token.specs.Lexemes.{lexeme_view}
use Rattle.starlark_c.proofs.filling.count_piece.Goals as goal

pub returns-then-is_some : goal.returns-then-is_some
returns-then-is_some c =
    let text = c.args.lexer.now.text in
    let n = c.loop-item.lexer.yielded_count in
    let next = next_lexeme c.loop-item.lexer.code_map text n c.in-Ok.lexeme (rw (c.in-Ok.is, c.loop-item.invariant.text) at (c.in-Some.ensures.item c.loop-item.invariant.going)) in
    let handed : c.next.new.self.yielded_count ≡ n + 1 = ap (λ (l : LexerView). l.yielded_count) (rw c.in-Ok.is at c.in-Some.ensures.after) in
    let cut = cut_found c.args.is_front c.args.text.now text n c.next.new.self.yielded_count c.cut_of.result c.requires.same handed c.cut_of.ensures.cut (sym c.is_some.ensures ∙ c.if-is_some.true) in
    record {
      all_lexemes = n + 1;
      all_bytes = length (values (home c.args.stays c.args.text.now) (take (n + 1) (lexemes_of text)));
      first = inl (next.few, refl);
      piece = piece_to_cut (home c.args.stays c.args.text.now) c.args.is_front text n cut.0 c.loop-item.invariant.uncut cut.1;
      more_lexemes = omega (arith, c.loop-item.invariant.later);
      more_bytes = omega (arith, c.loop-item.invariant.more, more_values (home c.args.stays c.args.text.now) text n (lexeme_view c.in-Ok.lexeme) next);
      needs = wanted_more (home c.args.stays c.args.text.now) text n (lexeme_view c.in-Ok.lexeme) c.loop-item.passed c.want_lexeme-passed.result next c.loop-item.invariant.wanted c.want_lexeme-passed.ensures;
    }

pub loop-item-smaller : goal.loop-item-smaller
loop-item-smaller c =
    let inv = c.loop-item.invariant in
    let n = c.loop-item.lexer.yielded_count in
    let next = next_lexeme c.loop-item.lexer.code_map c.args.lexer.now.text n c.in-Ok.lexeme (rw (c.in-Ok.is, inv.text) at (c.in-Some.ensures.item inv.going)) in
    let handed : c.next.new.self.yielded_count ≡ n + 1 = ap (λ (l : LexerView). l.yielded_count) (rw c.in-Ok.is at c.in-Some.ensures.after) in
    omega (arith, handed, next.some)

pub loop-item-preserved : goal.loop-item-preserved
loop-item-preserved c =
    let inv = c.loop-item.invariant in
    let text = c.args.lexer.now.text in
    let n = c.loop-item.lexer.yielded_count in
    let next = next_lexeme c.loop-item.lexer.code_map text n c.in-Ok.lexeme (rw (c.in-Ok.is, inv.text) at (c.in-Some.ensures.item inv.going)) in
    let after = rw c.in-Ok.is at c.in-Some.ensures.after in
    let handed : c.next.new.self.yielded_count ≡ n + 1 = ap (λ (l : LexerView). l.yielded_count) after in
    let ended : c.next.new.self.has_ended ≡ false = ap (λ (l : LexerView). l.has_ended) after ∙ rw inv.going refl in
    rw handed (record {
      going = ended;
      text = ap (λ (l : LexerView). l.text) after ∙ inv.text;
      few = next.few;
      uncut = uncut_more c.args.is_front text n inv.uncut (no_cut_found c.args.is_front c.args.text.now text n c.next.new.self.yielded_count c.cut_of.result c.requires.same handed (c.cut_of.ensures.found (rw c.in-Ok.is at c.in-Some.ensures.cut)) (sym c.is_some.ensures ∙ c.if-is_some.false));
      later = omega (arith, inv.later);
      more = omega (arith, inv.more, more_values (home c.args.stays c.args.text.now) text n (lexeme_view c.in-Ok.lexeme) next);
      wanted = wanted_more (home c.args.stays c.args.text.now) text n (lexeme_view c.in-Ok.lexeme) c.loop-item.passed c.want_lexeme-passed.result next inv.wanted c.want_lexeme-passed.ensures;
    })

pub returns-in-Err-Error : goal.returns-in-Err-Error
returns-in-Err-Error c =
    let inv = c.loop-item.invariant in
    let text = c.args.lexer.now.text in
    let n = c.loop-item.lexer.yielded_count in
    let last = next_fault c.loop-item.lexer.code_map text n c.in-Err-Error.exception (rw (c.in-Err-Error.is, c.in-Err-Error.field-0-is, inv.text) at (c.in-Some.ensures.item inv.going)) in
    record {
      all_lexemes = length (lexemes_of text);
      all_bytes = length (all_values (home c.args.stays c.args.text.now) text);
      first = inr (refl, refl);
      piece = piece_of_all (home c.args.stays c.args.text.now) c.args.is_front text n inv.uncut last.all;
      more_lexemes = omega (arith, inv.later, last.all);
      more_bytes = omega (arith, inv.more, all_bytes (home c.args.stays c.args.text.now) text n last.fault last.all last.is);
      needs = wanted_fault (home c.args.stays c.args.text.now) text n c.named_len.result last.fault c.loop-item.passed c.with.result last.all last.is inv.wanted (c.named_len.ensures c.loop-item.lexer.code_map last.fault last.thrown) c.with.ensures;
    }

pub returns : goal.returns
returns c =
    let inv = c.loop-item.invariant in
    let text = c.args.lexer.now.text in
    let n = c.loop-item.lexer.yielded_count in
    let none = next_none c.loop-item.lexer.code_map text n (rw inv.text at (c.in_default.ensures.item inv.going)) inv.few in
    wanted_all (home c.args.stays c.args.text.now) c.args.is_front text c.args.lexer.now.yielded_count n c.loop-item.passed none.0 none.1 inv.later inv.more inv.uncut inv.wanted
