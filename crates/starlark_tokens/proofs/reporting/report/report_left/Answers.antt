use Rattle.std.proofs.Common.{ℕ, ◌∷◌, nat_lt, ◌≡◌, ◌+◌, ◌-◌, ◌^◌, ◌∙◌, ◌++◌, [], refl, Some, ap, append_assoc, append-nil, arith, count_by, drop, min, string_bytes, subst, sym}
use Rattle.std.proofs.lemmas.Result.{err_from_is_err_and}
use Rattle.starlark_devices.specs.Calls.{Going}
use Rattle.starlark_recovery.specs.RecoveringLexer.{RecoveringView}
use Rattle.starlark_lexemes.specs.Lexer.{AnswersBetween, AnswersWithin}
use Rattle.starlark_tokens.specs.Reporting.Reports.{is_fault, items_report, shown_report}
use Rattle.starlark_tokens.proofs.ReportWrites.{no_memory, same_error, stops_later, stops_longer, took_nil, took_then, written_all}
use Rattle.starlark_tokens.specs.Reporting.ReportWrites.{StopsWithin, Took}
use Rattle.starlark_tokens.proofs.Reported.{count_cons, report_nil, report_step}
use Rattle.starlark_lexemes.proofs.NextItems.{next_item, next_none}
use Rattle.starlark_tokens.proofs.reporting.report.report_left.Goals as goal

none_before : (n : ℕ) → 0 + n ≡ n
none_before n = omega arith

none_found : (most : ℕ) → most - 0 ≡ most
none_found most = omega arith

pub loop-item-init : goal.loop-item-init
loop-item-init g c =
    record {
      ready = c.requires.ready;
      kept = record { style = refl; text = refl; prefix = refl };
      source = c.requires.source;
      written = ([], took_nil g.W.WriteDevice.calls c.args.writer.now, ap (λ n. items_report c.args.reporter.now.style (string_bytes c.args.reporter.now.prefix) c.args.reporter.now.text.now n c.args.lexer.now.left) (none_found c.args.most));
      fits = omega arith;
      counted = ap (λ n. min n (2 ^ 64 - 1)) (none_before (count_by is_fault c.args.lexer.now.left));
    }

pub loop-item-preserved : goal.loop-item-preserved
loop-item-preserved g c =
    let inv = c.loop-item.invariant in
    let style = c.args.reporter.now.style in
    let text = c.args.reporter.now.text.now in
    let prefix = string_bytes c.args.reporter.now.prefix in
    let old = c.loop-item.lexer in
    let next = next_item old.code_map old.left c.in-Some.item c.in-Some.ensures.item in
    let kept = c.in_ok-count.ensures.kept in
    let more = drop 1 old.left in
    let after : c.next.new.self.left ≡ more = ap (λ (r : RecoveringView). r.left) c.in-Some.ensures.after ∙ c.in_ok-count.ensures.going old.left in
    let source : c.next.new.self.text ≡ text = ap (λ (r : RecoveringView). r.text) c.in-Some.ensures.after ∙ inv.source in
    let found = c.loop-item.faults in
    let most = c.args.most in
    let item = shown_report (nat_lt found most) style prefix text next.next in
    let lines : string_bytes c.report_item.new.reporter.lines ≡ item = rw (inv.kept.style, inv.kept.prefix, inv.kept.text) at (c.in_ok-count.ensures.lines old.code_map next.next next.answers) in
    let calls = g.W.WriteDevice.calls in
    let wrote = written_all calls _ _ _ _ _ (rw (c.as_bytes.ensures.value, lines) at c.in_ok-write_all.ensures.text) in
    let count = c.in_ok-count.ensures.counted old.code_map next.next next.answers in
    let now : c.saturating_add-faults.result ≡ min (found + count_by is_fault (next.next ∷ [])) (2 ^ 64 - 1) = omega (arith, c.saturating_add-faults.ensures, count) in
    let rest = items_report style prefix text (most - c.saturating_add-faults.result) more in
    let split : items_report style prefix text (most - found) old.left ≡ item ++ rest = ap (items_report style prefix text (most - found)) next.is ∙ report_step style prefix text next.next more most found _ (omega (arith, c.ranges.most.fits)) now in
    let whole = append_assoc inv.written.0 item rest ∙ ap (λ t. inv.written.0 ++ t) (sym split) ∙ inv.written.2 in
    let total = ap (count_by is_fault) next.is ∙ count_cons next.next more in
    rw after (record {
      ready = c.in_ok-count.ensures.ready;
      kept = record { style = kept.style ∙ inv.kept.style; text = kept.text ∙ inv.kept.text; prefix = kept.prefix ∙ inv.kept.prefix };
      source = source;
      written = (inv.written.0 ++ item, took_then calls Going _ _ _ inv.written.0 item inv.written.1 wrote, whole);
      fits = omega (arith, c.saturating_add-faults.ensures);
      counted = omega (arith, c.saturating_add-faults.ensures, count, total, inv.counted, inv.fits);
    })

pub report_item-requires-clause-ready : goal.report_item-requires-clause-ready
report_item-requires-clause-ready g c = c.loop-item.invariant.ready

pub report_item-requires-clause-answered : goal.report_item-requires-clause-answered
report_item-requires-clause-answered g c =
    let next = next_item c.loop-item.lexer.code_map c.loop-item.lexer.left c.in-Some.item c.in-Some.ensures.item in
    (c.loop-item.lexer.code_map, next.next, next.answers)

pub report_item-requires-clause-within : goal.report_item-requires-clause-within
report_item-requires-clause-within g c =
    let inv = c.loop-item.invariant in
    subst (λ t. AnswersWithin t (Some c.in-Some.item)) (inv.source ∙ sym inv.kept.text) c.in-Some.ensures.within

pub report_item-requires-clause-between : goal.report_item-requires-clause-between
report_item-requires-clause-between g c =
    let inv = c.loop-item.invariant in
    subst (λ t. AnswersBetween t (Some c.in-Some.item)) (inv.source ∙ sym inv.kept.text) c.in-Some.ensures.between

pub returns-in_err-count-clause-written : goal.returns-in_err-count-clause-written
returns-in_err-count-clause-written g c =
    let p = err_from_is_err_and c.from_residual.result c.from_residual.ensures.1 in
    let calls = g.W.WriteDevice.calls in
    let inv = c.loop-item.invariant in
    let stopped = stops_later calls _ _ _ p.0 inv.written.0 _ inv.written.1 (no_memory calls c.loop-item.writer p.0 _ p.2) in
    rw p.1 (subst (StopsWithin calls c.args.writer.now c.loop-item.writer p.0) inv.written.2 stopped)

pub returns-in_err-write_all-clause-written : goal.returns-in_err-write_all-clause-written
returns-in_err-write_all-clause-written g c =
    let p = err_from_is_err_and c.from_residual-in_err-write_all.result c.from_residual-in_err-write_all.ensures.1 in
    let calls = g.W.WriteDevice.calls in
    let old = c.loop-item.lexer in
    let next = next_item old.code_map old.left c.in-Some.item c.in-Some.ensures.item in
    let more = drop 1 old.left in
    let inv = c.loop-item.invariant in
    let style = c.args.reporter.now.style in
    let text = c.args.reporter.now.text.now in
    let prefix = string_bytes c.args.reporter.now.prefix in
    let found = c.loop-item.faults in
    let most = c.args.most in
    let item = shown_report (nat_lt found most) style prefix text next.next in
    let lines : string_bytes c.report_item.new.reporter.lines ≡ item = rw (inv.kept.style, inv.kept.prefix, inv.kept.text) at (c.in_ok-count.ensures.lines old.code_map next.next next.answers) in
    let within = same_error calls _ _ _ p.0 _ p.2 (written_all calls _ _ _ _ _ (rw (c.as_bytes.ensures.value, lines) at c.in_err-write_all.ensures.text)) in
    let rest = items_report style prefix text (most - min (found + count_by is_fault (next.next ∷ [])) (2 ^ 64 - 1)) more in
    let split : items_report style prefix text (most - found) old.left ≡ item ++ rest = ap (items_report style prefix text (most - found)) next.is ∙ report_step style prefix text next.next more most found _ (omega (arith, c.ranges.most.fits)) refl in
    let stopped = stops_later calls _ _ _ p.0 inv.written.0 _ inv.written.1 (stops_longer calls _ _ p.0 item rest within) in
    rw p.1 (subst (StopsWithin calls c.args.writer.now c.write_all.new.writer p.0) (ap (λ t. inv.written.0 ++ t) (sym split) ∙ inv.written.2) stopped)

pub returns-clause-written : goal.returns-clause-written
returns-clause-written g c =
    let inv = c.loop-item.invariant in
    let none = next_none c.loop-item.lexer.code_map c.loop-item.lexer.left c.in_default.ensures.item in
    let args = c.args.reporter.now in
    let whole = rw (none, report_nil args.style (string_bytes args.prefix) args.text.now _, append-nil inv.written.0) at inv.written.2 in
    subst (Took g.W.WriteDevice.calls Going c.args.writer.now c.loop-item.writer) whole inv.written.1

pub returns-clause-counted : goal.returns-clause-counted
returns-clause-counted g c =
    let inv = c.loop-item.invariant in
    let none = next_none c.loop-item.lexer.code_map c.loop-item.lexer.left c.in_default.ensures.item in
    let counted = rw none at inv.counted in
    omega (arith, counted, inv.fits)
