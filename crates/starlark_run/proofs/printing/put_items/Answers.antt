use Rattle.std.proofs.Common.{◌≡◌, ◌+◌, ◌≤◌, ◌++◌, Ok, append-nil, ap, arith, drop, false, length, refl, subst, sym, ◌∙◌}
use Rattle.std.proofs.lemmas.Result.{err_from_is_err_and}
use Rattle.starlark_grammar.specs.Gaps.{InOrder}
use Rattle.starlark_token.specs.Lexemes.{lexeme_view}
use Rattle.starlark_lexemes.specs.Lexer.{LexerView}
use Rattle.starlark_token.specs.TextItems.{Given, items}
use Rattle.starlark_grammar.specs.Reading.{outcome}
use Rattle.starlark_grammar.proofs.Order.OrderedLexemes.{outcome_order}
use Rattle.starlark_run.specs.Output.{item_line, lines_of, output}
use Rattle.starlark_run.specs.Runs.{status_of}
use Rattle.starlark_run.specs.Writing.{Writes}
use Rattle.starlark_run.specs.declared.ends.RunStatus.TheVariants as RunStatus
use Rattle.starlark_run.proofs.PrintedItems.{lines_cons, lines_nil, next_edges, next_few, next_order, thrown_status}
use Rattle.starlark_run.proofs.Answered.{all_given, next_fault, next_lexeme}
use Rattle.starlark_base.proofs.Pairs.{position_start}
use Rattle.starlark_run.proofs.BufferedWrites.{sends_less, sends_none, sends_then}
use Rattle.starlark_run.proofs.Writing.{writes_given_up, writes_on, writes_on_stopped, writes_sound, writes_then, writes_then_stopped, writes_told, writes_waiting}
use Rattle.starlark_run.proofs.printing.put_items.Goals as goal

pub loop-item-init : goal.loop-item-init
unfolding output
loop-item-init g c =
    let text = c.args.text.now in
    let name = c.args.name.now in
    let buffer = c.args.printer.now.buffer in
    let fresh = c.requires.fresh in
    let handed : c.args.lexer.now.yielded_count ≡ 0 = ap (λ (l : LexerView). l.yielded_count) fresh in
    let all = (outcome_order text).0 in
    let waiting = writes_waiting g.W.WriteDevice.calls c.args.writer.now (buffer ++ lines_of name text (items text)) (tt {0}) c.requires.sound in
    record {
      place = position_start text c.utf8.text;
      order = (all.0, subst (λ n. InOrder text 0 (drop n (outcome text).lexemes) all.0) (sym handed) all.2);
      few = subst (λ n. n ≤ length (outcome text).lexemes) (sym handed) (omega arith);
      going = ap (λ (l : LexerView). l.has_ended) fresh;
      text = ap (λ (l : LexerView). l.text) fresh;
      held = c.requires.held;
      blocks = sends_none g.W.WriteDevice.calls c.args.writer.now.device (length buffer) (length buffer) (omega arith);
      written = subst (λ n. Writes {T = Unit {0}} g.W.WriteDevice.calls c.args.writer.now c.args.writer.now (buffer ++ lines_of name text (items text)) (buffer ++ lines_of name text (drop n (items text))) (Ok tt)) (sym handed) waiting;
    }

pub lexeme-requires-clause-sound : goal.lexeme-requires-clause-sound
lexeme-requires-clause-sound g c = writes_sound _ _ _ _ _ _ c.loop-item.invariant.written

pub lexeme-requires-clause-onward : goal.lexeme-requires-clause-onward
lexeme-requires-clause-onward g c =
    let inv = c.loop-item.invariant in
    let next = next_lexeme c.loop-item.lexer.code_map c.args.text.now c.loop-item.lexer.yielded_count c.in-Ok.lexeme (rw (c.in-Ok.is, inv.text) at (c.in-Some.ensures.item inv.going)) in
    (next_order c.args.text.now _ _ c.in-Ok.lexeme _ inv.order.1 next).0

pub lexeme-requires-clause-order : goal.lexeme-requires-clause-order
lexeme-requires-clause-order g c =
    let inv = c.loop-item.invariant in
    let next = next_lexeme c.loop-item.lexer.code_map c.args.text.now c.loop-item.lexer.yielded_count c.in-Ok.lexeme (rw (c.in-Ok.is, inv.text) at (c.in-Some.ensures.item inv.going)) in
    (next_order c.args.text.now _ _ c.in-Ok.lexeme _ inv.order.1 next).1

pub lexeme-requires-clause-begin : goal.lexeme-requires-clause-begin
lexeme-requires-clause-begin g c =
    let inv = c.loop-item.invariant in
    let next = next_lexeme c.loop-item.lexer.code_map c.args.text.now c.loop-item.lexer.yielded_count c.in-Ok.lexeme (rw (c.in-Ok.is, inv.text) at (c.in-Some.ensures.item inv.going)) in
    (next_edges c.args.text.now _ c.in-Ok.lexeme c.utf8.text next).0

pub lexeme-requires-clause-end : goal.lexeme-requires-clause-end
lexeme-requires-clause-end g c =
    let inv = c.loop-item.invariant in
    let next = next_lexeme c.loop-item.lexer.code_map c.args.text.now c.loop-item.lexer.yielded_count c.in-Ok.lexeme (rw (c.in-Ok.is, inv.text) at (c.in-Some.ensures.item inv.going)) in
    (next_edges c.args.text.now _ c.in-Ok.lexeme c.utf8.text next).1

pub returns-in_err-place-in-Ok-clause-writes : goal.returns-in_err-place-in-Ok-clause-writes
returns-in_err-place-in-Ok-clause-writes g c =
    let p = err_from_is_err_and c.from_residual.result c.from_residual.ensures.1 in
    let inv = c.loop-item.invariant in
    let text = c.args.text.now in
    let h = c.loop-item.lexer.yielded_count in
    let name = c.args.name.now in
    let next = next_lexeme c.loop-item.lexer.code_map text h c.in-Ok.lexeme (rw (c.in-Ok.is, inv.text) at (c.in-Some.ensures.item inv.going)) in
    let item = Given (lexeme_view c.in-Ok.lexeme) in
    let before = rw (next.items, lines_cons name text item (drop (h + 1) (items text))) at inv.written in
    rw (p.1, p.2) (writes_on_stopped _ _ _ _ _ _ _ c.loop-item.printer.buffer (item_line name text item) (lines_of name text (drop (h + 1) (items text))) c.lexeme.new.self.buffer _ _ _ before c.in_err-place-in-Ok.ensures.writes)

pub loop-item-smaller : goal.loop-item-smaller
loop-item-smaller g c =
    let inv = c.loop-item.invariant in
    let h = c.loop-item.lexer.yielded_count in
    let next = next_lexeme c.loop-item.lexer.code_map c.args.text.now h c.in-Ok.lexeme (rw (c.in-Ok.is, inv.text) at (c.in-Some.ensures.item inv.going)) in
    let handed : c.next.new.self.yielded_count ≡ h + 1 = ap (λ (l : LexerView). l.yielded_count) (rw c.in-Ok.is at c.in-Some.ensures.after) in
    omega (arith, handed, (next_few c.args.text.now h c.in-Ok.lexeme next).1)

pub loop-item-preserved : goal.loop-item-preserved
loop-item-preserved g c =
    let inv = c.loop-item.invariant in
    let text = c.args.text.now in
    let h = c.loop-item.lexer.yielded_count in
    let name = c.args.name.now in
    let next = next_lexeme c.loop-item.lexer.code_map text h c.in-Ok.lexeme (rw (c.in-Ok.is, inv.text) at (c.in-Some.ensures.item inv.going)) in
    let after = rw c.in-Ok.is at c.in-Some.ensures.after in
    let handed : c.next.new.self.yielded_count ≡ h + 1 = ap (λ (l : LexerView). l.yielded_count) after in
    let ended : c.next.new.self.has_ended ≡ false = ap (λ (l : LexerView). l.has_ended) after ∙ rw inv.going refl in
    let item = Given (lexeme_view c.in-Ok.lexeme) in
    let rest = lines_of name text (drop (h + 1) (items text)) in
    let before = rw (next.items, lines_cons name text item (drop (h + 1) (items text))) at inv.written in
    let on = writes_on _ (Unit {0}) _ _ _ _ c.loop-item.printer.buffer (item_line name text item) rest c.lexeme.new.self.buffer _ _ (tt {0}) before c.in_ok-place-in-Ok.ensures.writes in
    let order = (next_order text _ _ c.in-Ok.lexeme _ inv.order.1 next).2 in
    rw handed (record {
      place = c.in_ok-place-in-Ok.ensures.place;
      order = (inv.order.0, rw c.in_ok-place-in-Ok.ensures.at order);
      few = (next_few text h c.in-Ok.lexeme next).0;
      going = ended;
      text = ap (λ (l : LexerView). l.text) after ∙ inv.text;
      held = c.in_ok-place-in-Ok.ensures.held;
      blocks = sends_then g.W.WriteDevice.calls _ _ _ _ _ _ inv.blocks c.in_ok-place-in-Ok.ensures.blocks;
      written = on;
    })

pub exception-requires-clause-sound : goal.exception-requires-clause-sound
exception-requires-clause-sound g c = writes_sound _ _ _ _ _ _ c.loop-item.invariant.written

pub exception-requires-clause-thrown : goal.exception-requires-clause-thrown
exception-requires-clause-thrown g c =
    let inv = c.loop-item.invariant in
    let next = next_fault c.loop-item.lexer.code_map c.args.text.now c.loop-item.lexer.yielded_count c.in-Err-Error.exception (rw (c.in-Err-Error.is, c.in-Err-Error.field-0-is, inv.text) at (c.in-Some.ensures.item inv.going)) in
    (c.loop-item.lexer.code_map, next.thrown)

pub returns-in-Err-Error-clause-writes : goal.returns-in-Err-Error-clause-writes
returns-in-Err-Error-clause-writes g c =
    let inv = c.loop-item.invariant in
    let next = next_fault c.loop-item.lexer.code_map c.args.text.now c.loop-item.lexer.yielded_count c.in-Err-Error.exception (rw (c.in-Err-Error.is, c.in-Err-Error.field-0-is, inv.text) at (c.in-Some.ensures.item inv.going)) in
    writes_then _ _ _ _ _ _ _ _ _ _ RunStatus.Fault (rw next.items at inv.written) c.in_ok-exception-in-Err-Error.ensures.writes

pub returns-in_err-exception-in-Err-Error-clause-writes : goal.returns-in_err-exception-in-Err-Error-clause-writes
returns-in_err-exception-in-Err-Error-clause-writes g c =
    let p = err_from_is_err_and c.from_residual-in_err-exception-in-Err-Error.result c.from_residual-in_err-exception-in-Err-Error.ensures.1 in
    let inv = c.loop-item.invariant in
    let next = next_fault c.loop-item.lexer.code_map c.args.text.now c.loop-item.lexer.yielded_count c.in-Err-Error.exception (rw (c.in-Err-Error.is, c.in-Err-Error.field-0-is, inv.text) at (c.in-Some.ensures.item inv.going)) in
    rw (p.1, p.2) (writes_then_stopped _ _ _ _ _ _ _ _ _ _ _ _ (rw next.items at inv.written) c.in_err-exception-in-Err-Error.ensures.writes)

pub returns-in-Err-Error-clause-status : goal.returns-in-Err-Error-clause-status
returns-in-Err-Error-clause-status g c =
    let inv = c.loop-item.invariant in
    let next = next_fault c.loop-item.lexer.code_map c.args.text.now c.loop-item.lexer.yielded_count c.in-Err-Error.exception (rw (c.in-Err-Error.is, c.in-Err-Error.field-0-is, inv.text) at (c.in-Some.ensures.item inv.going)) in
    thrown_status c.loop-item.lexer.code_map (outcome c.args.text.now).fault c.in-Err-Error.exception next.thrown

pub returns-in-Err-Memory-clause-writes : goal.returns-in-Err-Memory-clause-writes
returns-in-Err-Memory-clause-writes g c = writes_given_up _ _ _ _ _ _ _ _ c.loop-item.invariant.written

pub returns-clause-writes : goal.returns-clause-writes
returns-clause-writes g c =
    let inv = c.loop-item.invariant in
    let text = c.args.text.now in
    let name = c.args.name.now in
    let all = all_given c.loop-item.lexer.code_map text c.loop-item.lexer.yielded_count (rw inv.text at (c.in_default.ensures.item inv.going)) inv.few in
    writes_told _ _ _ _ _ _ _ _ (rw (all.0, lines_nil name text, append-nil c.loop-item.printer.buffer) at inv.written)

pub returns-clause-status : goal.returns-clause-status
returns-clause-status g c =
    let inv = c.loop-item.invariant in
    let all = all_given c.loop-item.lexer.code_map c.args.text.now c.loop-item.lexer.yielded_count (rw inv.text at (c.in_default.ensures.item inv.going)) inv.few in
    sym (ap status_of all.1)

pub returns-in_err-place-in-Ok-clause-blocks : goal.returns-in_err-place-in-Ok-clause-blocks
returns-in_err-place-in-Ok-clause-blocks g c =
    let p = err_from_is_err_and c.from_residual.result c.from_residual.ensures.1 in
    rw p.1 (sends_then g.W.WriteDevice.calls _ _ _ _ _ _ c.loop-item.invariant.blocks c.in_err-place-in-Ok.ensures.blocks)

pub returns-in-Err-Error-clause-blocks : goal.returns-in-Err-Error-clause-blocks
returns-in-Err-Error-clause-blocks g c = sends_then g.W.WriteDevice.calls _ _ _ _ _ _ c.loop-item.invariant.blocks c.in_ok-exception-in-Err-Error.ensures.blocks

pub returns-in_err-exception-in-Err-Error-clause-blocks : goal.returns-in_err-exception-in-Err-Error-clause-blocks
returns-in_err-exception-in-Err-Error-clause-blocks g c =
    let p = err_from_is_err_and c.from_residual-in_err-exception-in-Err-Error.result c.from_residual-in_err-exception-in-Err-Error.ensures.1 in
    rw p.1 (sends_then g.W.WriteDevice.calls _ _ _ _ _ _ c.loop-item.invariant.blocks c.in_err-exception-in-Err-Error.ensures.blocks)

pub returns-in-Err-Memory-clause-blocks : goal.returns-in-Err-Memory-clause-blocks
returns-in-Err-Memory-clause-blocks g c = sends_less g.W.WriteDevice.calls _ _ _ _ _ c.loop-item.invariant.held c.loop-item.invariant.blocks
