use Rattle.std.proofs.Common.{◌≡◌, ◌+◌, ◌++◌, ◌∙◌, length, ap, subst, sym, arith, rules}
use Rattle.starlark_grammar.specs.Items as grammar
use Rattle.starlark_grammar.specs.Words.{Text}
use Rattle.starlark_words.specs.Inner.LiteralViews.{literal_view, stop_view, value_view}
use Rattle.starlark_words.proofs.LiteralBodies.BodyReads.{item_reads}
use Rattle.starlark_words.proofs.LiteralBodies.BodyRounds.{after_run, front_item, front_known, item_boundary, item_inside, run_stops}
use Rattle.starlark_words.proofs.LiteralBodies.BodySteps.{IsFront}
use Rattle.starlark_words.proofs.body.read_bytes_body.Goals as goal

pub loop-decoded-init : goal.loop-decoded-init
loop-decoded-init c = record {
  front = subst (IsFront (literal_view c.args.literal) c.args.text.now c.args.run) (search rules) (front_known (literal_view c.args.literal) c.args.text.now c.args.run c.utf8.text c.requires.run);
  boundary = c.requires.run.boundary;
  more = omega arith;
  reads = (omega arith, omega arith);
}

pub overflow_add-len-in-Ok : goal.overflow_add-len-in-Ok
overflow_add-len-in-Ok c =
    let after = after_run (literal_view c.args.literal) c.args.text.now c.range_from.result.now c.loop-decoded.len c.loop-decoded.decoded.items c.first_run-run.result.now c.range_from-rest.result.now c.utf8.text c.loop-decoded.invariant.boundary c.loop-decoded.invariant.front c.range_from.ensures.value c.first_run-run.ensures.value c.first_run-run.ensures.boundary c.range_from-rest.ensures.value in
    let item : grammar.Item = record { len = c.in-Ok.more; value = value_view c.in-Ok.value } in
    let inside = item_inside (literal_view c.args.literal) c.args.text.now (c.loop-decoded.len + length c.first_run-run.result.now) (c.loop-decoded.decoded.items ++ c.first_run-run.result.now) c.range_from-rest.result.now item after (sym c.in-Ok.ensures.value) in
    search (rules, inside.1)

pub loop-decoded-smaller : goal.loop-decoded-smaller
loop-decoded-smaller c =
    let after = after_run (literal_view c.args.literal) c.args.text.now c.range_from.result.now c.loop-decoded.len c.loop-decoded.decoded.items c.first_run-run.result.now c.range_from-rest.result.now c.utf8.text c.loop-decoded.invariant.boundary c.loop-decoded.invariant.front c.range_from.ensures.value c.first_run-run.ensures.value c.first_run-run.ensures.boundary c.range_from-rest.ensures.value in
    let item : grammar.Item = record { len = c.in-Ok.more; value = value_view c.in-Ok.value } in
    let inside = item_inside (literal_view c.args.literal) c.args.text.now (c.loop-decoded.len + length c.first_run-run.result.now) (c.loop-decoded.decoded.items ++ c.first_run-run.result.now) c.range_from-rest.result.now item after (sym c.in-Ok.ensures.value) in
    omega (arith, inside.0, inside.1)

pub loop-decoded-preserved : goal.loop-decoded-preserved
loop-decoded-preserved c =
    let after = after_run (literal_view c.args.literal) c.args.text.now c.range_from.result.now c.loop-decoded.len c.loop-decoded.decoded.items c.first_run-run.result.now c.range_from-rest.result.now c.utf8.text c.loop-decoded.invariant.boundary c.loop-decoded.invariant.front c.range_from.ensures.value c.first_run-run.ensures.value c.first_run-run.ensures.boundary c.range_from-rest.ensures.value in
    let item : grammar.Item = record { len = c.in-Ok.more; value = value_view c.in-Ok.value } in
    let found : grammar.found_at (literal_view c.args.literal) c.range_from-rest.result.now ≡ grammar.Goes item = sym c.in-Ok.ensures.value in
    let so_far = c.in_ok-extend_from_slice-2.ensures.items ∙ ap (λ (t : Text). c.loop-decoded.decoded.items ++ t) c.as_bytes-in-loop-decoded.ensures.value in
    let more = front_item (literal_view c.args.literal) c.args.text.now (c.loop-decoded.len + length c.first_run-run.result.now) (c.loop-decoded.decoded.items ++ c.first_run-run.result.now) c.range_from-rest.result.now item after found in
    record {
      front = subst (λ (t : Text). IsFront (literal_view c.args.literal) c.args.text.now (c.loop-decoded.len + length c.first_run-run.result.now + c.in-Ok.more) t) (sym (c.in_ok-append_to_bytes-in-Ok.ensures ∙ ap (λ (t : Text). t ++ value_view c.in-Ok.value) so_far)) more;
      boundary = item_boundary (literal_view c.args.literal) c.args.text.now (c.loop-decoded.len + length c.first_run-run.result.now) (c.loop-decoded.decoded.items ++ c.first_run-run.result.now) c.range_from-rest.result.now item after found;
      more = omega (arith, c.loop-decoded.invariant.more);
      reads = item_reads c.args.run c.loop-decoded.len (length c.first_run-run.result.now) c.in-Ok.more _ _ _ _ c.loop-decoded.invariant.more (item_inside (literal_view c.args.literal) c.args.text.now (c.loop-decoded.len + length c.first_run-run.result.now) (c.loop-decoded.decoded.items ++ c.first_run-run.result.now) c.range_from-rest.result.now item after found).0 c.loop-decoded.invariant.reads c.first_run-run.ensures.reads c.in-Ok.ensures.reads;
    }

pub returns-in-Err-clause-body : goal.returns-in-Err-clause-body
returns-in-Err-clause-body c =
    let after = after_run (literal_view c.args.literal) c.args.text.now c.range_from.result.now c.loop-decoded.len c.loop-decoded.decoded.items c.first_run-run.result.now c.range_from-rest.result.now c.utf8.text c.loop-decoded.invariant.boundary c.loop-decoded.invariant.front c.range_from.ensures.value c.first_run-run.ensures.value c.first_run-run.ensures.boundary c.range_from-rest.ensures.value in
    let so_far = c.in_ok-extend_from_slice-2.ensures.items ∙ ap (λ (t : Text). c.loop-decoded.decoded.items ++ t) c.as_bytes-in-loop-decoded.ensures.value in
    let end = run_stops (literal_view c.args.literal) c.args.text.now (c.loop-decoded.len + length c.first_run-run.result.now) (c.loop-decoded.decoded.items ++ c.first_run-run.result.now) c.range_from-rest.result.now (stop_view c.in-Err.stop) after (sym c.in-Err.ensures.value) in
    record { len = end.0; value = so_far ∙ end.1; stop = end.2 }
