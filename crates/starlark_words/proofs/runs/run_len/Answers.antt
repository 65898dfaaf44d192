use Rattle.std.proofs.Common.{◌≡◌, ◌≤◌, ◌+◌, ◌-◌, ◌*◌, ◌∙◌, ℕ, zero, suc, ap, sym, drop, take, length, arith}
use Rattle.std.proofs.lemmas.List.{length-drop, length-take-le, take_all}
use Rattle.std.specs.List.{prefix_len}
use Rattle.std.specs.Prelude.{min}
use Rattle.starlark_words.specs.Inner.Reads.{CountsSteps, more_reads}
use Rattle.starlark_words.specs.Inner.PlainRuns.{is_in_run}
use Rattle.starlark_words.specs.Inner.LiteralViews.{literal_view}
use Rattle.starlark_words.proofs.LaneRuns.{run_ends, run_goes_on, run_within}
use Rattle.starlark_words.proofs.runs.run_len.Goals as goal

pub returns-then-ends-ne0-clause-value : goal.returns-then-ends-ne0-clause-value
returns-then-ends-ne0-clause-value c =
    let p = is_in_run (literal_view c.args.literal) in
    let found = c.run_ends-ends.ensures.some (omega (arith, c.if-ends-ne0.true)) in
    found.0 ∙ run_ends p 16 c.args.bytes.now c.if-bytes-lt-LANES.false (omega (arith, found.0, found.1))

pub returns-then-ends-ne0-clause-reads : goal.returns-then-ends-ne0-clause-reads
returns-then-ends-ne0-clause-reads c =
    let p = is_in_run (literal_view c.args.literal) in
    let room = c.if-bytes-lt-LANES.false in
    let found = c.run_ends-ends.ensures.some (omega (arith, c.if-ends-ne0.true)) in
    let value = found.0 ∙ run_ends p 16 c.args.bytes.now room (omega (arith, found.0, found.1)) in
    let front = c.short_run_len-front.ensures.value in
    let within = run_within p 3 c.args.bytes.now (omega (arith, room)) in
    let whole : c.short_run_len-front.result ≡ 3 = omega (arith, front, within, c.if-front-lt-ALONE.false) in
    let on = run_goes_on p 3 c.args.bytes.now (omega (arith, room)) (sym front ∙ whole) in
    (omega (arith, found.1, c.add-2.ensures), omega (arith, value, on, c.add-2.ensures))

pub returns-clause-value : goal.returns-clause-value
returns-clause-value c =
    let p = is_in_run (literal_view c.args.literal) in
    let room = c.if-bytes-lt-LANES.false in
    let none = c.run_ends-ends.ensures.none (omega (arith, c.if-ends-ne0.false)) in
    let rest = take_all (length c.args.bytes.now - 16) (drop 16 c.args.bytes.now) (omega (arith, length-drop 16 c.args.bytes.now)) in
    let on = run_goes_on p 16 c.args.bytes.now room none in
    omega (arith, on, c.long_run_len-2.ensures.value, ap (prefix_len p) rest)

-- the steps of a run whose first one was read before
stepped : (old mid new passed len result more count : ℕ) → mid ≡ more_reads old (passed + 19) → more_reads mid 1 ≤ new → result ≡ 16 + more → (16 ≤ len - 16 → CountsSteps 0 (min more (len - 16 - 16)) 0 mid new)
    → 0 + 16 * count ≤ min result (len - 16) → more_reads old (passed + 3 + 0 + 16 * count + 16) ≤ new
stepped old mid new passed len result more zero is after whole steps less = omega (arith, is, after)
stepped old mid new passed len result more (suc n) is after whole steps less = omega (arith, is, steps (omega (arith, less)) n (omega (arith, whole, less)))

pub returns-then-ends-ne0-clause-steps : goal.returns-then-ends-ne0-clause-steps
returns-then-ends-ne0-clause-steps c = λ long some count less.
    let found = c.run_ends-ends.ensures.some (omega (arith, c.if-ends-ne0.true)) in
    omega (arith, less, found.1, c.add-2.ensures)

pub returns-clause-steps : goal.returns-clause-steps
returns-clause-steps c = λ long some count less.
    let rest : length (take (length c.args.bytes.now - 16) (drop 16 c.args.bytes.now)) ≡ length c.args.bytes.now - 16 = length-take-le (length c.args.bytes.now - 16) (drop 16 c.args.bytes.now) (omega (arith, length-drop 16 c.args.bytes.now)) in
    stepped c.args.reads.now _ _ c.args.passed (length c.args.bytes.now) _ c.long_run_len-2.result count (omega (arith, c.add-2.ensures)) (omega (arith, c.long_run_len-2.ensures.reads)) (omega arith) (rw rest at c.long_run_len-2.ensures.steps) less
