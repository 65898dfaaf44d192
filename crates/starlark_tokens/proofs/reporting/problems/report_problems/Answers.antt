use Rattle.std.proofs.Common.{ℕ, ◌∷◌, ◌≡◌, ◌+◌, ◌-◌, ◌^◌, ◌∙◌, [], refl, None, ap, arith, drop, length, min, string_bytes, subst, sym}
use Rattle.std.proofs.lemmas.Result.{err_from_is_err_and}
use Rattle.starlark_checks.specs.Inner.CheckerViews.{HasPassed}
use Rattle.starlark_devices.specs.Calls.{Going}
use Rattle.starlark_lexemes.proofs.NextItems.{next_item, next_none}
use Rattle.starlark_recovery.specs.RecoveringLexer.{RecoveringView}
use Rattle.starlark_tokens.proofs.ProblemReports.{few_told, if_ok, problems_cons, problems_end, put_memory, put_none, put_rest, put_stops, put_then, told_step}
use Rattle.starlark_tokens.proofs.ReportWrites.{same_error}
use Rattle.starlark_tokens.specs.Inner.FoundProblems.{IsHeld, done_by, held_after, joined_with}
use Rattle.starlark_tokens.specs.ToldFaults.Problems.{joined, passed, problem_at, problems_from, told}
use Rattle.starlark_tokens.specs.Reporting.Reports.{problems_report}
use Rattle.starlark_tokens.specs.Reporting.ReportWrites.{StopsWithin, Takes}
use Rattle.starlark_tokens.proofs.reporting.problems.report_problems.Goals as goal

none_before : (n : ℕ) → 0 + n ≡ n
none_before n = omega arith

none_found : (most : ℕ) → most - 0 ≡ most
none_found most = omega arith

pub loop-item-init : goal.loop-item-init
loop-item-init g c = record {
  ready = c.requires.ready;
  kept = record { style = refl; text = refl; prefix = refl };
  source = c.requires.source;
  so_far = ([], c.new-checker.ensures c.args.reporter.now.text.now, (None, tt, put_none g.W.WriteDevice.calls _ _ _ c.args.most 0 c.args.writer.now _ (omega arith)));
}

pub loop-item-preserved : goal.loop-item-preserved
loop-item-preserved g c =
    let inv = c.loop-item.invariant in
    let style = c.args.reporter.now.style in
    let text = c.args.reporter.now.text.now in
    let which = style.filter.now in
    let old = c.loop-item.lexer in
    let next = next_item old.code_map old.left c.in-Some.item c.in-Some.ensures.item in
    let more = drop 1 old.left in
    let kept = c.in_ok-faults.ensures.kept in
    let after : c.next.new.self.left ≡ more = ap (λ (r : RecoveringView). r.left) c.in-Some.ensures.after ∙ c.in_ok-found.ensures.going old.left in
    let before = inv.so_far.0 in
    let has = subst (λ t. HasPassed t before c.loop-item.checker) (sym inv.kept.text) inv.so_far.1 in
    let last = inv.so_far.2.0 in
    let now = problem_at text before next.next in
    let found_is : IsHeld text c.in_ok-found.found now = rw inv.kept.text at (c.in_ok-found.ensures.found old.code_map next.next before next.answers has) in
    let passes : HasPassed text (passed next.next ∷ before) c.problem_at.new.checker = rw inv.kept.text at (c.in_ok-found.ensures.passed old.code_map next.next before next.answers has) in
    let done_is = subst (λ t. IsHeld t c.hold-done.result (done_by last now)) (sym inv.kept.text) (c.hold-done.ensures.done text last now inv.so_far.2.1 found_is) in
    let wrote = rw (inv.kept.style, inv.kept.prefix, inv.kept.text) at (c.in_ok-faults.ensures.written (done_by last now) done_is) in
    let count = rw (inv.kept.style, inv.kept.text) at (c.in_ok-faults.ensures.counted (done_by last now) done_is) in
    let later = problems_from text (passed next.next ∷ before) more in
    let parts = ap (λ l. told which text (joined_with last l)) (ap (problems_from text before) next.is ∙ problems_cons text before next.next more) ∙ told_step which text last now later in
    let put = put_then g.W.WriteDevice.calls style _ text c.args.most 0 c.loop-item.faults _ _ _ _ _ _ _ (omega (arith, c.ranges.most.fits)) (few_told which text (done_by last now)) count (rw parts at inv.so_far.2.2) wrote in
    rw after (record {
      ready = c.in_ok-faults.ensures.ready;
      kept = record { style = kept.style ∙ inv.kept.style; text = kept.text ∙ inv.kept.text; prefix = kept.prefix ∙ inv.kept.prefix };
      source = ap (λ (r : RecoveringView). r.text) c.in-Some.ensures.after ∙ inv.source;
      so_far = (passed next.next ∷ before, passes, (held_after last now, c.hold-done.ensures.held text last now inv.so_far.2.1 found_is, put));
    })

pub problem_at-requires-clause-answered : goal.problem_at-requires-clause-answered
problem_at-requires-clause-answered g c =
    let next = next_item c.loop-item.lexer.code_map c.loop-item.lexer.left c.in-Some.item c.in-Some.ensures.item in
    (c.loop-item.lexer.code_map, next.next, next.answers)

pub put_done-requires-clause-done : goal.put_done-requires-clause-done
put_done-requires-clause-done g c =
    let inv = c.loop-item.invariant in
    let text = c.args.reporter.now.text.now in
    let old = c.loop-item.lexer in
    let next = next_item old.code_map old.left c.in-Some.item c.in-Some.ensures.item in
    let before = inv.so_far.0 in
    let has = subst (λ t. HasPassed t before c.loop-item.checker) (sym inv.kept.text) inv.so_far.1 in
    let last = inv.so_far.2.0 in
    let now = problem_at text before next.next in
    let found_is : IsHeld text c.in_ok-found.found now = rw inv.kept.text at (c.in_ok-found.ensures.found old.code_map next.next before next.answers has) in
    (done_by last now, subst (λ t. IsHeld t c.hold-done.result (done_by last now)) (sym inv.kept.text) (c.hold-done.ensures.done text last now inv.so_far.2.1 found_is))

pub returns-in_err-found-clause-written : goal.returns-in_err-found-clause-written
returns-in_err-found-clause-written g c =
    let p = err_from_is_err_and c.from_residual.result c.from_residual.ensures.1 in
    let put = c.loop-item.invariant.so_far.2.2 in
    let calls = g.W.WriteDevice.calls in
    let style = c.args.reporter.now.style in
    let text = c.args.reporter.now.text.now in
    let prefix = string_bytes c.args.reporter.now.prefix in
    let all = told style.filter.now text (joined (problems_from text [] c.args.lexer.now.left)) in
    let stopped = put_memory calls _ _ _ c.args.most 0 _ _ _ p.0 _ _ p.2 put in
    rw p.1 (subst (λ n. StopsWithin calls c.args.writer.now c.loop-item.writer p.0 (problems_report style prefix text n all)) (none_found c.args.most) stopped)

pub returns-in_err-faults-clause-written : goal.returns-in_err-faults-clause-written
returns-in_err-faults-clause-written g c =
    let p = err_from_is_err_and c.from_residual-in_err-faults.result c.from_residual-in_err-faults.ensures.1 in
    let inv = c.loop-item.invariant in
    let style = c.args.reporter.now.style in
    let text = c.args.reporter.now.text.now in
    let which = style.filter.now in
    let prefix = string_bytes c.args.reporter.now.prefix in
    let all = told which text (joined (problems_from text [] c.args.lexer.now.left)) in
    let calls = g.W.WriteDevice.calls in
    let old = c.loop-item.lexer in
    let next = next_item old.code_map old.left c.in-Some.item c.in-Some.ensures.item in
    let more = drop 1 old.left in
    let before = inv.so_far.0 in
    let has = subst (λ t. HasPassed t before c.loop-item.checker) (sym inv.kept.text) inv.so_far.1 in
    let last = inv.so_far.2.0 in
    let now = problem_at text before next.next in
    let found_is : IsHeld text c.in_ok-found.found now = rw inv.kept.text at (c.in_ok-found.ensures.found old.code_map next.next before next.answers has) in
    let done_is = subst (λ t. IsHeld t c.hold-done.result (done_by last now)) (sym inv.kept.text) (c.hold-done.ensures.done text last now inv.so_far.2.1 found_is) in
    let stopped = same_error calls _ _ _ p.0 _ p.2 (rw (inv.kept.style, inv.kept.prefix, inv.kept.text) at (c.in_err-faults.ensures.written (done_by last now) done_is)) in
    let later = problems_from text (passed next.next ∷ before) more in
    let parts = ap (λ l. told which text (joined_with last l)) (ap (problems_from text before) next.is ∙ problems_cons text before next.next more) ∙ told_step which text last now later in
    let within = put_stops calls style _ text c.args.most 0 c.loop-item.faults _ _ _ p.0 _ _ _ (omega (arith, c.ranges.most.fits)) (few_told which text (done_by last now)) (rw parts at inv.so_far.2.2) stopped in
    rw p.1 (subst (λ n. StopsWithin calls c.args.writer.now c.put_done.new.writer p.0 (problems_report style prefix text n all)) (none_found c.args.most) within)

pub returns-clause-written : goal.returns-clause-written
returns-clause-written g c =
    let inv = c.loop-item.invariant in
    let style = c.args.reporter.now.style in
    let text = c.args.reporter.now.text.now in
    let which = style.filter.now in
    let prefix = string_bytes c.args.reporter.now.prefix in
    let all = told which text (joined (problems_from text [] c.args.lexer.now.left)) in
    let calls = g.W.WriteDevice.calls in
    let before = inv.so_far.0 in
    let last = inv.so_far.2.0 in
    let none = next_none c.loop-item.lexer.code_map c.loop-item.lexer.left c.in_default.ensures.item in
    let end = ap (problems_from text before) none ∙ problems_end text before c.loop-item.checker inv.so_far.1 in
    let parts = ap (λ l. told which text (joined_with last l)) end in
    let held_is = subst (λ t. IsHeld t c.loop-item.held last) (sym inv.kept.text) inv.so_far.2.1 in
    let rest = rw (inv.kept.style, inv.kept.prefix, inv.kept.text) at (c.report_open.ensures.written last held_is) in
    let takes = put_rest calls style _ text c.args.most 0 c.loop-item.faults _ _ _ _ _ c.report_open.result (rw parts at inv.so_far.2.2) rest in
    subst (λ n. Takes calls Going c.args.writer.now c.report_open.new.writer (problems_report style prefix text n all) c.report_open.result) (none_found c.args.most) takes

pub returns-clause-counted : goal.returns-clause-counted
returns-clause-counted g c =
    let inv = c.loop-item.invariant in
    let text = c.args.reporter.now.text.now in
    let which = c.args.reporter.now.style.filter.now in
    let before = inv.so_far.0 in
    let last = inv.so_far.2.0 in
    let none = next_none c.loop-item.lexer.code_map c.loop-item.lexer.left c.in_default.ensures.item in
    let end = ap (problems_from text before) none ∙ problems_end text before c.loop-item.checker inv.so_far.1 in
    let number = ap (λ l. min (c.loop-item.faults + length (told which text (joined_with last l))) (2 ^ 64 - 1)) (sym end) in
    let held_is = subst (λ t. IsHeld t c.loop-item.held last) (sym inv.kept.text) inv.so_far.2.1 in
    if_ok _ _ c.report_open.result _ _ (λ faults counted.
    (rw (inv.kept.style, inv.kept.text) at (counted last held_is)) ∙ number ∙ inv.so_far.2.2.counted ∙ ap (λ n. min n (2 ^ 64 - 1)) (none_before _)) c.report_open.ensures.counted
