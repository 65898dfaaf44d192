use Rattle.std.proofs.Common.{◌∙◌, refl, Some, ap, arith, drop, map, subst, sym}
use Rattle.std.proofs.lemmas.Result.{err_from_is_err_and}
use Rattle.std.specs.Prelude.{option_to_list}
use Rattle.starlark_checks.specs.OpenStack.{never_closed}
use Rattle.starlark_tokens.proofs.ProblemReports.{IsPut, few_told, first_open, if_ok, joined_end, none_open, put_last, put_none, put_stops, put_then, told_step}
use Rattle.starlark_tokens.proofs.ReportWrites.{same_error}
use Rattle.starlark_tokens.specs.Inner.FoundProblems.{IsHeld, done_by, held_after, joined_with}
use Rattle.starlark_tokens.specs.ToldFaults.Problems.{OfCheck, told}
use Rattle.starlark_tokens.proofs.reporting.problems.report_open.Goals as goal

pub loop-finding-init : goal.loop-finding-init
loop-finding-init g c = record {
  ready = c.requires.ready;
  kept = record { style = refl; text = refl; prefix = refl };
  so_far = λ first is. (first, is, put_none g.W.WriteDevice.calls _ _ _ c.args.most c.args.found c.args.writer.now _ (omega (arith, c.ranges.found.fits)));
}

pub loop-finding-preserved : goal.loop-finding-preserved
loop-finding-preserved g c =
    let inv = c.loop-finding.invariant in
    let style = c.args.reporter.now.style in
    let text = c.args.reporter.now.text.now in
    let which = style.filter.now in
    let all = never_closed c.loop-finding.checker.stack in
    let next = Some (OfCheck c.in-Some.finding) in
    let kept = c.in_ok-faults.ensures.kept in
    rw c.in-Some.ensures.rest (record {
      ready = c.in_ok-faults.ensures.ready;
      kept = record { style = kept.style ∙ inv.kept.style; text = kept.text ∙ inv.kept.text; prefix = kept.prefix ∙ inv.kept.prefix };
      so_far = λ first first_is.
          let s = inv.so_far first first_is in
          let done_is = c.hold-done.ensures.done text s.0 next s.1 refl in
          let wrote = rw (inv.kept.style, inv.kept.prefix, inv.kept.text) at (c.in_ok-faults.ensures.written (done_by s.0 next) (rw (sym inv.kept.text) at done_is)) in
          let after = rw (inv.kept.style, inv.kept.text) at (c.in_ok-faults.ensures.counted (done_by s.0 next) (rw (sym inv.kept.text) at done_is)) in
          let parts = ap (λ l. told which text (joined_with s.0 (map OfCheck l))) (first_open c.in-Some.finding all c.in-Some.ensures.first) ∙ told_step which text s.0 next (map OfCheck (drop 1 all)) in (
            held_after s.0 next,
            c.hold-done.ensures.held text s.0 next s.1 refl,
            put_then g.W.WriteDevice.calls style _ text c.args.most c.args.found c.loop-finding.faults _ _ _ _ _ _ _ (omega (arith, c.ranges.most.fits)) (few_told which text (done_by s.0 next)) after (rw parts at s.2) wrote,
          );
    })

pub put_done-requires-clause-done : goal.put_done-requires-clause-done
put_done-requires-clause-done g c =
    let inv = c.loop-finding.invariant in
    let s = inv.so_far c.requires.held.0 c.requires.held.1 in
    let next = Some (OfCheck c.in-Some.finding) in
    (done_by s.0 next, subst (λ t. IsHeld t c.hold-done.result (done_by s.0 next)) (sym inv.kept.text) (c.hold-done.ensures.done c.args.reporter.now.text.now s.0 next s.1 refl))

pub returns-in_err-faults-clause-written : goal.returns-in_err-faults-clause-written
returns-in_err-faults-clause-written g c last is =
    let p = err_from_is_err_and c.from_residual.result c.from_residual.ensures.1 in
    let inv = c.loop-finding.invariant in
    let style = c.args.reporter.now.style in
    let text = c.args.reporter.now.text.now in
    let which = style.filter.now in
    let calls = g.W.WriteDevice.calls in
    let all = never_closed c.loop-finding.checker.stack in
    let next = Some (OfCheck c.in-Some.finding) in
    let s = inv.so_far last is in
    let done_is = subst (λ t. IsHeld t c.hold-done.result (done_by s.0 next)) (sym inv.kept.text) (c.hold-done.ensures.done text s.0 next s.1 refl) in
    let stopped = same_error calls _ _ _ p.0 _ p.2 (rw (inv.kept.style, inv.kept.prefix, inv.kept.text) at (c.in_err-faults.ensures.written (done_by s.0 next) done_is)) in
    let parts = ap (λ l. told which text (joined_with s.0 (map OfCheck l))) (first_open c.in-Some.finding all c.in-Some.ensures.first) ∙ told_step which text s.0 next (map OfCheck (drop 1 all)) in
    rw p.1 (put_stops calls style _ text c.args.most c.args.found c.loop-finding.faults _ _ _ p.0 _ _ _ (omega (arith, c.ranges.most.fits)) (few_told which text (done_by s.0 next)) (rw parts at s.2) stopped)

pub returns-clause-written : goal.returns-clause-written
returns-clause-written g c last is =
    let inv = c.loop-finding.invariant in
    let style = c.args.reporter.now.style in
    let text = c.args.reporter.now.text.now in
    let which = style.filter.now in
    let s = inv.so_far last is in
    let held_is = subst (λ t. IsHeld t c.take.result s.0) (sym inv.kept.text) (subst (λ h. IsHeld text h s.0) (sym c.take.ensures.value) s.1) in
    let none = none_open (never_closed c.loop-finding.checker.stack) c.in_default.ensures.first in
    let left = ap (λ l. told which text (joined_with s.0 (map OfCheck l))) none ∙ ap (told which text) (joined_end s.0) in
    let takes = rw (inv.kept.style, inv.kept.prefix, inv.kept.text) at (c.put_done-2.ensures.written s.0 held_is) in
    put_last g.W.WriteDevice.calls style _ text c.args.most c.args.found c.loop-finding.faults _ _ _ _ _ c.put_done-2.result (omega (arith, c.ranges.most.fits)) (few_told which text s.0) (rw left at s.2) takes

pub returns-clause-counted : goal.returns-clause-counted
returns-clause-counted g c =
    let inv = c.loop-finding.invariant in
    let text = c.args.reporter.now.text.now in
    let which = c.args.reporter.now.style.filter.now in
    let none = none_open (never_closed c.loop-finding.checker.stack) c.in_default.ensures.first in
    if_ok _ _ c.put_done-2.result _ _ (λ count counted last is.
    let s = inv.so_far last is in
    let held_is = subst (λ t. IsHeld t c.take.result s.0) (sym inv.kept.text) (subst (λ h. IsHeld text h s.0) (sym c.take.ensures.value) s.1) in
    let left = ap (λ l. told which text (joined_with s.0 (map OfCheck l))) none ∙ ap (told which text) (joined_end s.0) in
    let put : IsPut _ _ _ _ _ _ _ _ _ _ (told which text (option_to_list s.0)) = rw left at s.2 in
    (rw (inv.kept.style, inv.kept.text) at (counted s.0 held_is)) ∙ put.counted) c.put_done-2.ensures.counted
