use Rattle.std.proofs.Common.{[], refl, ◌≡◌, ◌+◌, ◌-◌, ◌++◌, ◌∙◌, drop, encode_utf8, length, string_bytes, take, ap, subst, sym, arith, rules}
use Rattle.std.proofs.Math.Nat.{sub-zero}
use Rattle.std.proofs.lemmas.Str.{IsCharBoundary-at_seam}
use Rattle.starlark_grammar.specs.Items as grammar
use Rattle.starlark_grammar.specs.Words.{Text}
use Rattle.starlark_words.specs.Inner.LiteralViews.{literal_view, stop_view, value_view}
use Rattle.starlark_words.proofs.LiteralBodies.BodyReads.{item_reads, short_reads}
use Rattle.starlark_words.proofs.LiteralBodies.BodyRounds.{after_uncopied, all_copied, front_item, front_known, item_boundary, item_inside, run_stops, uncopied_item, IsAfterRun}
use Rattle.starlark_words.proofs.LiteralBodies.BodySteps.{IsFront}
use Rattle.starlark_words.proofs.body.read_text_body.Goals as goal
use Rattle.starlark_words.proofs.body.read_text_body.Goals.{After-range_from-rest, After-uncounted_front-front}

-- the run before an item, …
run_is : (c : After-range_from-rest) → IsAfterRun (literal_view c.args.literal) c.args.text.now (c.loop-rest.len + length c.first_run-run.result.now) ((string_bytes c.loop-rest.decoded) ++ take (c.loop-rest.len + length c.first_run-run.result.now - c.loop-rest.copied) (drop c.loop-rest.copied c.args.text.now)) c.range_from-rest.result.now
run_is c = after_uncopied (literal_view c.args.literal) c.args.text.now c.range_from.result.now (string_bytes c.loop-rest.decoded) c.loop-rest.copied c.loop-rest.len c.first_run-run.result.now c.range_from-rest.result.now c.utf8.text c.loop-rest.invariant.copied c.loop-rest.invariant.boundary c.loop-rest.invariant.front c.range_from.ensures.value c.first_run-run.ensures.value c.first_run-run.ensures.boundary c.range_from-rest.ensures.value

-- … and the bytes that are read of it
front_is : (c : After-uncounted_front-front) → c.uncounted_front-front.result.now ≡ take 3 c.range_from-rest.result.now
front_is c = c.uncounted_front-front.ensures ∙ ap (take 3) c.as_bytes.ensures.value

pub loop-rest-init : goal.loop-rest-init
loop-rest-init c = record {
  front = subst (IsFront (literal_view c.args.literal) c.args.text.now c.args.run) (search (rules, sub-zero c.args.run)) (front_known (literal_view c.args.literal) c.args.text.now c.args.run c.utf8.text c.requires.run);
  copied = omega arith;
  start = IsCharBoundary-at_seam c.args.text.now [] c.args.text.now refl c.utf8.text;
  boundary = c.requires.run.boundary;
  more = omega arith;
  reads = (omega arith, omega arith);
}

pub loop-rest-smaller-then-is_kept_pair : goal.loop-rest-smaller-then-is_kept_pair
loop-rest-smaller-then-is_kept_pair c =
    let after = run_is (goal.at.loop-rest-smaller-then-is_kept_pair c).After-range_from-rest in
    let item : grammar.Item = record { len = 2; value = take 2 c.range_from-rest.result.now } in
    let found : grammar.found_at (literal_view c.args.literal) c.range_from-rest.result.now ≡ grammar.Goes item = c.is_kept_pair.ensures c.if-is_kept_pair.true c.range_from-rest.result.now (front_is (goal.at.loop-rest-smaller-then-is_kept_pair c).After-uncounted_front-front) in
    omega (arith, (item_inside (literal_view c.args.literal) c.args.text.now (c.loop-rest.len + length c.first_run-run.result.now) ((string_bytes c.loop-rest.decoded) ++ take (c.loop-rest.len + length c.first_run-run.result.now - c.loop-rest.copied) (drop c.loop-rest.copied c.args.text.now)) c.range_from-rest.result.now item after found).1)

pub loop-rest-preserved-then-is_kept_pair : goal.loop-rest-preserved-then-is_kept_pair
loop-rest-preserved-then-is_kept_pair c =
    let after = run_is (goal.at.loop-rest-preserved-then-is_kept_pair c).After-range_from-rest in
    let item : grammar.Item = record { len = 2; value = take 2 c.range_from-rest.result.now } in
    let found : grammar.found_at (literal_view c.args.literal) c.range_from-rest.result.now ≡ grammar.Goes item = c.is_kept_pair.ensures c.if-is_kept_pair.true c.range_from-rest.result.now (front_is (goal.at.loop-rest-preserved-then-is_kept_pair c).After-uncounted_front-front) in
    record {
      front = uncopied_item (literal_view c.args.literal) c.args.text.now c.range_from-rest.result.now (string_bytes c.loop-rest.decoded) c.loop-rest.copied (c.loop-rest.len + length c.first_run-run.result.now) 2 (omega (arith, c.loop-rest.invariant.copied)) after found;
      copied = omega (arith, c.loop-rest.invariant.copied);
      start = c.loop-rest.invariant.start;
      boundary = item_boundary (literal_view c.args.literal) c.args.text.now (c.loop-rest.len + length c.first_run-run.result.now) ((string_bytes c.loop-rest.decoded) ++ take (c.loop-rest.len + length c.first_run-run.result.now - c.loop-rest.copied) (drop c.loop-rest.copied c.args.text.now)) c.range_from-rest.result.now item after found;
      more = omega (arith, c.loop-rest.invariant.more);
      reads = short_reads c.args.run c.loop-rest.len (length c.first_run-run.result.now) _ _ _ c.loop-rest.invariant.more c.loop-rest.invariant.reads c.first_run-run.ensures.reads;
    }

pub loop-rest-smaller-in-Some : goal.loop-rest-smaller-in-Some
loop-rest-smaller-in-Some c =
    let after = run_is (goal.at.loop-rest-smaller-in-Some c).After-range_from-rest in
    let item : grammar.Item = record { len = 2; value = encode_utf8 c.in-Some.character } in
    let found : grammar.found_at (literal_view c.args.literal) c.range_from-rest.result.now ≡ grammar.Goes item = c.in-Some.ensures c.range_from-rest.result.now (front_is (goal.at.loop-rest-smaller-in-Some c).After-uncounted_front-front) in
    omega (arith, (item_inside (literal_view c.args.literal) c.args.text.now (c.loop-rest.len + length c.first_run-run.result.now) ((string_bytes c.loop-rest.decoded) ++ take (c.loop-rest.len + length c.first_run-run.result.now - c.loop-rest.copied) (drop c.loop-rest.copied c.args.text.now)) c.range_from-rest.result.now item after found).1)

pub loop-rest-preserved-in-Some : goal.loop-rest-preserved-in-Some
loop-rest-preserved-in-Some c =
    let after = run_is (goal.at.loop-rest-preserved-in-Some c).After-range_from-rest in
    let item : grammar.Item = record { len = 2; value = encode_utf8 c.in-Some.character } in
    let found : grammar.found_at (literal_view c.args.literal) c.range_from-rest.result.now ≡ grammar.Goes item = c.in-Some.ensures c.range_from-rest.result.now (front_is (goal.at.loop-rest-preserved-in-Some c).After-uncounted_front-front) in
    let more = front_item (literal_view c.args.literal) c.args.text.now (c.loop-rest.len + length c.first_run-run.result.now) ((string_bytes c.loop-rest.decoded) ++ take (c.loop-rest.len + length c.first_run-run.result.now - c.loop-rest.copied) (drop c.loop-rest.copied c.args.text.now)) c.range_from-rest.result.now item after found in
    record {
      front = all_copied (literal_view c.args.literal) c.args.text.now _ (((string_bytes c.loop-rest.decoded) ++ take (c.loop-rest.len + length c.first_run-run.result.now - c.loop-rest.copied) (drop c.loop-rest.copied c.args.text.now)) ++ encode_utf8 c.in-Some.character) ((c.loop-rest.len + length c.first_run-run.result.now) + 2) (c.in_ok-push.ensures.bytes ∙ ap (λ (t : Text). t ++ encode_utf8 c.in-Some.character) (c.in_ok-append_run.ensures ∙ ap (λ (t : Text). (string_bytes c.loop-rest.decoded) ++ t) c.range.ensures.value)) more;
      copied = omega arith;
      start = item_boundary (literal_view c.args.literal) c.args.text.now (c.loop-rest.len + length c.first_run-run.result.now) ((string_bytes c.loop-rest.decoded) ++ take (c.loop-rest.len + length c.first_run-run.result.now - c.loop-rest.copied) (drop c.loop-rest.copied c.args.text.now)) c.range_from-rest.result.now item after found;
      boundary = item_boundary (literal_view c.args.literal) c.args.text.now (c.loop-rest.len + length c.first_run-run.result.now) ((string_bytes c.loop-rest.decoded) ++ take (c.loop-rest.len + length c.first_run-run.result.now - c.loop-rest.copied) (drop c.loop-rest.copied c.args.text.now)) c.range_from-rest.result.now item after found;
      more = omega (arith, c.loop-rest.invariant.more);
      reads = short_reads c.args.run c.loop-rest.len (length c.first_run-run.result.now) _ _ _ c.loop-rest.invariant.more c.loop-rest.invariant.reads c.first_run-run.ensures.reads;
    }

pub overflow_add-len-in-Ok : goal.overflow_add-len-in-Ok
overflow_add-len-in-Ok c =
    let after = run_is (goal.at.overflow_add-len-in-Ok c).After-range_from-rest in
    let item : grammar.Item = record { len = c.in-Ok.more; value = value_view c.in-Ok.value } in
    let found : grammar.found_at (literal_view c.args.literal) c.range_from-rest.result.now ≡ grammar.Goes item = sym c.in-Ok.ensures.value in
    search (rules, (item_inside (literal_view c.args.literal) c.args.text.now (c.loop-rest.len + length c.first_run-run.result.now) ((string_bytes c.loop-rest.decoded) ++ take (c.loop-rest.len + length c.first_run-run.result.now - c.loop-rest.copied) (drop c.loop-rest.copied c.args.text.now)) c.range_from-rest.result.now item after found).1)

pub loop-rest-smaller : goal.loop-rest-smaller
loop-rest-smaller c =
    let after = run_is (goal.at.loop-rest-smaller c).After-range_from-rest in
    let item : grammar.Item = record { len = c.in-Ok.more; value = value_view c.in-Ok.value } in
    let found : grammar.found_at (literal_view c.args.literal) c.range_from-rest.result.now ≡ grammar.Goes item = sym c.in-Ok.ensures.value in
    omega (arith, (item_inside (literal_view c.args.literal) c.args.text.now (c.loop-rest.len + length c.first_run-run.result.now) ((string_bytes c.loop-rest.decoded) ++ take (c.loop-rest.len + length c.first_run-run.result.now - c.loop-rest.copied) (drop c.loop-rest.copied c.args.text.now)) c.range_from-rest.result.now item after found).0, (item_inside (literal_view c.args.literal) c.args.text.now (c.loop-rest.len + length c.first_run-run.result.now) ((string_bytes c.loop-rest.decoded) ++ take (c.loop-rest.len + length c.first_run-run.result.now - c.loop-rest.copied) (drop c.loop-rest.copied c.args.text.now)) c.range_from-rest.result.now item after found).1)

pub loop-rest-preserved : goal.loop-rest-preserved
loop-rest-preserved c =
    let after = run_is (goal.at.loop-rest-preserved c).After-range_from-rest in
    let item : grammar.Item = record { len = c.in-Ok.more; value = value_view c.in-Ok.value } in
    let found : grammar.found_at (literal_view c.args.literal) c.range_from-rest.result.now ≡ grammar.Goes item = sym c.in-Ok.ensures.value in
    let more = front_item (literal_view c.args.literal) c.args.text.now (c.loop-rest.len + length c.first_run-run.result.now) ((string_bytes c.loop-rest.decoded) ++ take (c.loop-rest.len + length c.first_run-run.result.now - c.loop-rest.copied) (drop c.loop-rest.copied c.args.text.now)) c.range_from-rest.result.now item after found in
    record {
      front = all_copied (literal_view c.args.literal) c.args.text.now _ (((string_bytes c.loop-rest.decoded) ++ take (c.loop-rest.len + length c.first_run-run.result.now - c.loop-rest.copied) (drop c.loop-rest.copied c.args.text.now)) ++ value_view c.in-Ok.value) ((c.loop-rest.len + length c.first_run-run.result.now) + c.in-Ok.more) (c.in_ok-append_to_text-in-Ok.ensures ∙ ap (λ (t : Text). t ++ value_view c.in-Ok.value) (c.in_ok-append_run-2.ensures ∙ ap (λ (t : Text). (string_bytes c.loop-rest.decoded) ++ t) c.range-in-loop-rest.ensures.value)) more;
      copied = omega arith;
      start = item_boundary (literal_view c.args.literal) c.args.text.now (c.loop-rest.len + length c.first_run-run.result.now) ((string_bytes c.loop-rest.decoded) ++ take (c.loop-rest.len + length c.first_run-run.result.now - c.loop-rest.copied) (drop c.loop-rest.copied c.args.text.now)) c.range_from-rest.result.now item after found;
      boundary = item_boundary (literal_view c.args.literal) c.args.text.now (c.loop-rest.len + length c.first_run-run.result.now) ((string_bytes c.loop-rest.decoded) ++ take (c.loop-rest.len + length c.first_run-run.result.now - c.loop-rest.copied) (drop c.loop-rest.copied c.args.text.now)) c.range_from-rest.result.now item after found;
      more = omega (arith, c.loop-rest.invariant.more);
      reads = item_reads c.args.run c.loop-rest.len (length c.first_run-run.result.now) c.in-Ok.more _ _ _ _ c.loop-rest.invariant.more (item_inside (literal_view c.args.literal) c.args.text.now (c.loop-rest.len + length c.first_run-run.result.now) ((string_bytes c.loop-rest.decoded) ++ take (c.loop-rest.len + length c.first_run-run.result.now - c.loop-rest.copied) (drop c.loop-rest.copied c.args.text.now)) c.range_from-rest.result.now item after found).0 c.loop-rest.invariant.reads c.first_run-run.ensures.reads c.in-Ok.ensures.reads;
    }

pub returns-in-Err-clause-body : goal.returns-in-Err-clause-body
returns-in-Err-clause-body c =
    let after = run_is (goal.at.returns-in-Err-clause-body c).After-range_from-rest in
    let end = run_stops (literal_view c.args.literal) c.args.text.now (c.loop-rest.len + length c.first_run-run.result.now) ((string_bytes c.loop-rest.decoded) ++ take (c.loop-rest.len + length c.first_run-run.result.now - c.loop-rest.copied) (drop c.loop-rest.copied c.args.text.now)) c.range_from-rest.result.now (stop_view c.in-Err.stop) after (sym c.in-Err.ensures.value) in
    record { len = end.0; value = (c.in_ok-append_run-2.ensures ∙ ap (λ (t : Text). (string_bytes c.loop-rest.decoded) ++ t) c.range-in-loop-rest.ensures.value) ∙ end.1; stop = end.2 }
