use Rattle.std.proofs.Common.{◌+◌, ◌-◌, ◌≤◌, drop, take, length, arith, refl, rules}
use Rattle.std.proofs.lemmas.List.{length-drop, length-take-le}
use Rattle.std.proofs.lemmas.List.Sums.{prefix_len-le-length}
use Rattle.starlark_words.specs.Inner.PlainRuns.{is_in_run}
use Rattle.starlark_words.specs.Inner.LiteralViews.{literal_view}
use Rattle.starlark_words.proofs.LaneRuns.{step_ends, step_goes_on}
use Rattle.starlark_words.proofs.runs.long_run_len.Goals as goal

pub returns-then-ends-ne0-clause-value : goal.returns-then-ends-ne0-clause-value
returns-then-ends-ne0-clause-value c =
    let found = c.run_ends-ends.ensures.some (omega (arith, c.if-ends-ne0.true)) in
    let ends = step_ends (is_in_run (literal_view c.args.literal)) 16 c.loop-at.at c.args.bytes.now c.loop-at.invariant.value c.loop-at-test.true (omega (arith, found.0, found.1)) in
    omega (arith, found.0, ends)

pub returns-then-ends-ne0-clause-within : goal.returns-then-ends-ne0-clause-within
returns-then-ends-ne0-clause-within c =
    let found = c.run_ends-ends.ensures.some (omega (arith, c.if-ends-ne0.true)) in
    omega (arith, found.1, c.loop-at-test.true)

pub returns-then-ends-ne0-clause-reads : goal.returns-then-ends-ne0-clause-reads
returns-then-ends-ne0-clause-reads c =
    let found = c.run_ends-ends.ensures.some (omega (arith, c.if-ends-ne0.true)) in
    (omega (arith, found.1, c.loop-at.invariant.reads, c.add.ensures), omega (arith, found.1, c.loop-at.invariant.reads, c.add.ensures))

pub loop-at-init : goal.loop-at-init
loop-at-init c = record { within = omega arith; value = omega arith; reads = refl; steps = (0, omega arith) }

pub returns-then-ends-ne0-clause-steps : goal.returns-then-ends-ne0-clause-steps
returns-then-ends-ne0-clause-steps c = λ long count less.
    let found = c.run_ends-ends.ensures.some (omega (arith, c.if-ends-ne0.true)) in
    omega (arith, less, found.1, c.loop-at.invariant.steps.1, c.loop-at.invariant.reads, c.add.ensures)

pub loop-at-preserved : goal.loop-at-preserved
loop-at-preserved c =
    let none = c.run_ends-ends.ensures.none (omega (arith, c.if-ends-ne0.false)) in
    record {
      within = c.loop-at-test.true;
      value = step_goes_on (is_in_run (literal_view c.args.literal)) 16 c.loop-at.at c.args.bytes.now c.loop-at.invariant.value c.loop-at-test.true none;
      reads = c.loop-at.invariant.reads;
      steps = (c.loop-at.invariant.steps.0 + 1, omega (arith, c.loop-at.invariant.steps.1));
    }

pub overflow_add-len : goal.overflow_add-len
overflow_add-len c =
    let within = prefix_len-le-length (is_in_run (literal_view c.args.literal)) (take (length c.args.bytes.now - c.loop-at.at) (drop c.loop-at.at c.args.bytes.now)) in
    let fits = length-take-le (length c.args.bytes.now - c.loop-at.at) (drop c.loop-at.at c.args.bytes.now) (omega (arith, length-drop c.loop-at.at c.args.bytes.now)) in
    let inside : c.loop-at.at + c.short_run_len.result ≤ length c.args.bytes.now = omega (arith, within, fits, c.short_run_len.ensures.value, c.loop-at.invariant.within) in
    search (rules, inside)

pub returns-clause-reads : goal.returns-clause-reads
returns-clause-reads c =
    let same = c.loop-at.invariant.reads in
    (omega (arith, same, c.count_run.ensures), omega (arith, same, c.count_run.ensures))

pub returns-clause-steps : goal.returns-clause-steps
returns-clause-steps c = λ long count less. omega (arith, long, less, c.loop-at-test.false, c.loop-at.invariant.steps.1, c.loop-at.invariant.reads, c.count_run.ensures)
