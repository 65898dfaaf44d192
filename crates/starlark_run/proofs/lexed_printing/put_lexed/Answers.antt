use Rattle.std.proofs.Common.{◌≡◌, ◌+◌, ◌++◌, [], None, append-nil, ap, arith, drop, map, option_to_list, ◌∙◌}
use Rattle.std.proofs.lemmas.Result.{err_from_is_err_and}
use Rattle.starlark_token.specs.Lexemes.{lexeme_view}
use Rattle.starlark_token.specs.TextItems.{Given, Refused, items}
use Rattle.starlark_grammar.specs.Reading.{outcome}
use Rattle.starlark_grammar.proofs.Order.OrderedLexemes.{outcome_order}
use Rattle.starlark_run.specs.Inner.FaultLine.{fault_items}
use Rattle.starlark_run.specs.Output.{item_line, lines_of, output}
use Rattle.starlark_run.specs.declared.ends.RunStatus.TheVariants as RunStatus
use Rattle.starlark_run.proofs.PrintedItems.{fault_of_lexed, lines_cons, lines_nil, next_edges, next_of_lexed, next_order, unthrown}
use Rattle.starlark_base.proofs.Pairs.{position_start}
use Rattle.starlark_run.proofs.BufferedWrites.{sends_none, sends_then}
use Rattle.starlark_run.proofs.Writing.{writes_on, writes_on_stopped, writes_sound, writes_then, writes_then_stopped, writes_told, writes_waiting}
use Rattle.starlark_run.proofs.lexed_printing.put_lexed.Goals as goal

pub loop-lexeme-init : goal.loop-lexeme-init
unfolding output
loop-lexeme-init g c =
    let text = c.text-text.result.now in
    let all = (outcome_order text).0 in
    record {
      place = position_start text c.text-text.utf8;
      order = (all.0, all.2);
      held = c.requires.held;
      blocks = sends_none g.W.WriteDevice.calls c.args.writer.now.device _ _ (omega arith);
      written = writes_waiting g.W.WriteDevice.calls c.args.writer.now (c.args.printer.now.buffer ++ lines_of c.args.name.now text (items text)) (tt {0}) c.requires.sound;
    }

pub put_lexeme-requires-clause-sound : goal.put_lexeme-requires-clause-sound
put_lexeme-requires-clause-sound g c = writes_sound _ _ _ _ _ _ c.loop-lexeme.invariant.written

pub put_lexeme-requires-clause-onward : goal.put_lexeme-requires-clause-onward
put_lexeme-requires-clause-onward g c =
    let text = c.text-text.result.now in
    let k = c.loop-lexeme.lexeme-index in
    let next = next_of_lexed text _ _ c.lexemes-lexeme-items.result.now k c.lexeme-item.result c.lexemes-lexeme-items.ensures.lexemes c.requires.lexed.1.lexemes c.text-text.ensures c.loop-lexeme-test.true c.lexeme-item.is in
    (next_order text _ k c.lexeme-item.result _ c.loop-lexeme.invariant.order.1 next).0

pub put_lexeme-requires-clause-begin : goal.put_lexeme-requires-clause-begin
put_lexeme-requires-clause-begin g c =
    let text = c.text-text.result.now in
    let next = next_of_lexed text _ _ c.lexemes-lexeme-items.result.now _ c.lexeme-item.result c.lexemes-lexeme-items.ensures.lexemes c.requires.lexed.1.lexemes c.text-text.ensures c.loop-lexeme-test.true c.lexeme-item.is in
    (next_edges text _ c.lexeme-item.result c.text-text.utf8 next).0

pub put_lexeme-requires-clause-end : goal.put_lexeme-requires-clause-end
put_lexeme-requires-clause-end g c =
    let text = c.text-text.result.now in
    let next = next_of_lexed text _ _ c.lexemes-lexeme-items.result.now _ c.lexeme-item.result c.lexemes-lexeme-items.ensures.lexemes c.requires.lexed.1.lexemes c.text-text.ensures c.loop-lexeme-test.true c.lexeme-item.is in
    (next_edges text _ c.lexeme-item.result c.text-text.utf8 next).1

pub returns-in_err-place-clause-writes : goal.returns-in_err-place-clause-writes
returns-in_err-place-clause-writes g c =
    let p = err_from_is_err_and c.from_residual.result c.from_residual.ensures.1 in
    let text = c.text-text.result.now in
    let k = c.loop-lexeme.lexeme-index in
    let next = next_of_lexed text _ _ c.lexemes-lexeme-items.result.now k c.lexeme-item.result c.lexemes-lexeme-items.ensures.lexemes c.requires.lexed.1.lexemes c.text-text.ensures c.loop-lexeme-test.true c.lexeme-item.is in
    let before = rw (next.items, lines_cons c.args.name.now text (Given (lexeme_view c.lexeme-item.result)) (drop (k + 1) (items text))) at c.loop-lexeme.invariant.written in
    rw (p.1, p.2, ← c.text-text.ensures) (writes_on_stopped _ _ _ _ _ _ _ c.loop-lexeme.printer.buffer (item_line c.args.name.now text (Given (lexeme_view c.lexeme-item.result))) (lines_of c.args.name.now text (drop (k + 1) (items text))) c.put_lexeme.new.self.buffer _ _ _ before c.in_err-place.ensures.writes)

pub loop-lexeme-preserved : goal.loop-lexeme-preserved
loop-lexeme-preserved g c =
    let text = c.text-text.result.now in
    let k = c.loop-lexeme.lexeme-index in
    let next = next_of_lexed text _ _ c.lexemes-lexeme-items.result.now k c.lexeme-item.result c.lexemes-lexeme-items.ensures.lexemes c.requires.lexed.1.lexemes c.text-text.ensures c.loop-lexeme-test.true c.lexeme-item.is in
    let before = rw (next.items, lines_cons c.args.name.now text (Given (lexeme_view c.lexeme-item.result)) (drop (k + 1) (items text))) at c.loop-lexeme.invariant.written in
    let on = writes_on _ (Unit {0}) _ _ _ _ c.loop-lexeme.printer.buffer (item_line c.args.name.now text (Given (lexeme_view c.lexeme-item.result))) (lines_of c.args.name.now text (drop (k + 1) (items text))) c.put_lexeme.new.self.buffer _ _ (tt {0}) before c.in_ok-place.ensures.writes in
    let order = (next_order text _ k c.lexeme-item.result _ c.loop-lexeme.invariant.order.1 next).2 in
    record {
      place = c.in_ok-place.ensures.place;
      order = (c.loop-lexeme.invariant.order.0, rw c.in_ok-place.ensures.at order);
      held = c.in_ok-place.ensures.held;
      blocks = sends_then g.W.WriteDevice.calls _ _ _ _ _ _ c.loop-lexeme.invariant.blocks c.in_ok-place.ensures.blocks;
      written = on;
    }

pub returns-in_default-clause-writes : goal.returns-in_default-clause-writes
returns-in_default-clause-writes g c =
    let text = c.text-text.result.now in
    let k = c.loop-lexeme.lexeme-index in
    let left : drop k (items text) ≡ fault_items text = fault_of_lexed text _ _ c.lexemes-lexeme-items.result.now k c.lexemes-lexeme-items.ensures.lexemes c.requires.lexed.1.lexemes c.text-text.ensures (omega (arith, c.loop-lexeme-test.false, c.loop-lexeme.auto.lexeme-index-end)) in
    let none : (outcome c.args.lexed.now.text).fault ≡ None = unthrown c.requires.lexed.0 (outcome c.args.lexed.now.text).fault (rw (← c.in_default.ensures) at c.requires.lexed.1.fault) in
    let items_left : drop k (items text) ≡ [] = left ∙ ap (λ f. map Refused (option_to_list f)) (ap (λ t. (outcome t).fault) c.text-text.ensures ∙ none) in
    rw (← c.text-text.ensures) (writes_told _ _ _ _ _ _ _ _ (rw (items_left, lines_nil c.args.name.now text, append-nil c.loop-lexeme.printer.buffer) at c.loop-lexeme.invariant.written))

pub exception-requires-clause-sound : goal.exception-requires-clause-sound
exception-requires-clause-sound g c = writes_sound _ _ _ _ _ _ c.loop-lexeme.invariant.written

pub returns-in_err-exception-clause-writes : goal.returns-in_err-exception-clause-writes
returns-in_err-exception-clause-writes g c =
    let p = err_from_is_err_and c.from_residual-in_err-exception.result c.from_residual-in_err-exception.ensures.1 in
    let text = c.text-text.result.now in
    let k = c.loop-lexeme.lexeme-index in
    let left : drop k (items text) ≡ fault_items text = fault_of_lexed text _ _ c.lexemes-lexeme-items.result.now k c.lexemes-lexeme-items.ensures.lexemes c.requires.lexed.1.lexemes c.text-text.ensures (omega (arith, c.loop-lexeme-test.false, c.loop-lexeme.auto.lexeme-index-end)) in
    rw (p.1, p.2, ← c.text-text.ensures) (writes_then_stopped _ _ _ _ _ _ _ _ _ _ _ _ (rw left at c.loop-lexeme.invariant.written) c.in_err-exception.ensures.writes)

pub returns-clause-writes : goal.returns-clause-writes
returns-clause-writes g c =
    let text = c.text-text.result.now in
    let k = c.loop-lexeme.lexeme-index in
    let left : drop k (items text) ≡ fault_items text = fault_of_lexed text _ _ c.lexemes-lexeme-items.result.now k c.lexemes-lexeme-items.ensures.lexemes c.requires.lexed.1.lexemes c.text-text.ensures (omega (arith, c.loop-lexeme-test.false, c.loop-lexeme.auto.lexeme-index-end)) in
    rw (← c.text-text.ensures) (writes_then _ _ _ _ _ _ _ _ _ _ RunStatus.Fault (rw left at c.loop-lexeme.invariant.written) c.in_ok-exception.ensures.writes)

pub returns-in_err-place-clause-blocks : goal.returns-in_err-place-clause-blocks
returns-in_err-place-clause-blocks g c =
    let p = err_from_is_err_and c.from_residual.result c.from_residual.ensures.1 in
    rw p.1 (sends_then g.W.WriteDevice.calls _ _ _ _ _ _ c.loop-lexeme.invariant.blocks c.in_err-place.ensures.blocks)

pub returns-in_err-exception-clause-blocks : goal.returns-in_err-exception-clause-blocks
returns-in_err-exception-clause-blocks g c =
    let p = err_from_is_err_and c.from_residual-in_err-exception.result c.from_residual-in_err-exception.ensures.1 in
    rw p.1 (sends_then g.W.WriteDevice.calls _ _ _ _ _ _ c.loop-lexeme.invariant.blocks c.in_err-exception.ensures.blocks)

pub returns-clause-blocks : goal.returns-clause-blocks
returns-clause-blocks g c = sends_then g.W.WriteDevice.calls _ _ _ _ _ _ c.loop-lexeme.invariant.blocks c.in_ok-exception.ensures.blocks
