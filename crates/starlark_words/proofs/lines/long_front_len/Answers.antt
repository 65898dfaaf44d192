use Rattle.std.proofs.Common.{◌+◌, arith, refl}
use Rattle.starlark_words.specs.Inner.LineFronts.{is_in_front}
use Rattle.starlark_words.proofs.LaneRuns.{last_run, step_ends, step_goes_on}
use Rattle.starlark_words.proofs.lines.long_front_len.Goals as goal

pub returns-then-ends-ne0-clause-value : goal.returns-then-ends-ne0-clause-value
returns-then-ends-ne0-clause-value c =
    let found = c.front_ends-ends.ensures.some (omega (arith, c.if-ends-ne0.true)) in
    let ends = step_ends (is_in_front c.args.other) 16 c.loop-at.at c.args.text.now c.loop-at.invariant.value c.loop-at-test.true (omega (arith, found.0, found.1)) in
    omega (arith, found.0, ends)

pub returns-then-ends-ne0-clause-within : goal.returns-then-ends-ne0-clause-within
returns-then-ends-ne0-clause-within c =
    let found = c.front_ends-ends.ensures.some (omega (arith, c.if-ends-ne0.true)) in
    omega (arith, found.1, c.loop-at-test.true)

pub returns-then-ends-ne0-clause-reads : goal.returns-then-ends-ne0-clause-reads
returns-then-ends-ne0-clause-reads c =
    let found = c.front_ends-ends.ensures.some (omega (arith, c.if-ends-ne0.true)) in
    (omega (arith, found.1, c.loop-at.invariant.reads, c.add.ensures), omega (arith, found.1, c.loop-at.invariant.reads, c.add.ensures))

pub loop-at-init : goal.loop-at-init
loop-at-init c = record { within = c.requires.inside; value = c.requires.none; reads = refl; steps = (0, omega arith) }

pub returns-then-ends-ne0-clause-steps : goal.returns-then-ends-ne0-clause-steps
returns-then-ends-ne0-clause-steps c = λ count less.
    let found = c.front_ends-ends.ensures.some (omega (arith, c.if-ends-ne0.true)) in
    omega (arith, less, found.1, c.loop-at.invariant.steps.1, c.loop-at.invariant.reads, c.add.ensures)

pub loop-at-preserved : goal.loop-at-preserved
loop-at-preserved c =
    let none = c.front_ends-ends.ensures.none (omega (arith, c.if-ends-ne0.false)) in
    record {
      within = c.loop-at-test.true;
      value = step_goes_on (is_in_front c.args.other) 16 c.loop-at.at c.args.text.now c.loop-at.invariant.value c.loop-at-test.true none;
      reads = c.loop-at.invariant.reads;
      steps = (c.loop-at.invariant.steps.0 + 1, omega (arith, c.loop-at.invariant.steps.1));
    }

pub returns-then-ends-eq0-clause-value : goal.returns-then-ends-eq0-clause-value
returns-then-ends-eq0-clause-value c =
    let last = last_run (is_in_front c.args.other) 16 c.loop-at.at c.args.text.now c.loop-at.invariant.value c.requires.long (omega (arith, c.loop-at-test.false)) in
    let none = c.front_ends-ends-2.ensures.none c.if-ends-eq0.true in
    omega (arith, last, none, c.requires.long)

pub returns-then-ends-eq0-clause-reads : goal.returns-then-ends-eq0-clause-reads
returns-then-ends-eq0-clause-reads c =
    (omega (arith, c.loop-at-test.false, c.loop-at.invariant.reads, c.add-2.ensures), omega (arith, c.loop-at.invariant.within, c.loop-at.invariant.reads, c.add-2.ensures))

pub returns-else-ends-eq0-clause-value : goal.returns-else-ends-eq0-clause-value
returns-else-ends-eq0-clause-value c =
    let last = last_run (is_in_front c.args.other) 16 c.loop-at.at c.args.text.now c.loop-at.invariant.value c.requires.long (omega (arith, c.loop-at-test.false)) in
    let found = c.front_ends-ends-2.ensures.some (omega (arith, c.if-ends-eq0.false)) in
    omega (arith, last, found.0)

pub returns-else-ends-eq0-clause-within : goal.returns-else-ends-eq0-clause-within
returns-else-ends-eq0-clause-within c =
    let found = c.front_ends-ends-2.ensures.some (omega (arith, c.if-ends-eq0.false)) in
    omega (arith, found.1, c.requires.long)

pub returns-else-ends-eq0-clause-reads : goal.returns-else-ends-eq0-clause-reads
returns-else-ends-eq0-clause-reads c =
    let last = last_run (is_in_front c.args.other) 16 c.loop-at.at c.args.text.now c.loop-at.invariant.value c.requires.long (omega (arith, c.loop-at-test.false)) in
    let found = c.front_ends-ends-2.ensures.some (omega (arith, c.if-ends-eq0.false)) in
    (omega (arith, found.1, c.loop-at-test.false, c.requires.long, c.loop-at.invariant.reads, c.add-2.ensures), omega (arith, last, found.0, c.loop-at.invariant.value, c.loop-at.invariant.reads, c.add-2.ensures))

pub returns-then-ends-eq0-clause-steps : goal.returns-then-ends-eq0-clause-steps
returns-then-ends-eq0-clause-steps c = λ count less. omega (arith, less, c.loop-at-test.false, c.loop-at.invariant.steps.1, c.loop-at.invariant.reads, c.add-2.ensures)

pub returns-else-ends-eq0-clause-steps : goal.returns-else-ends-eq0-clause-steps
returns-else-ends-eq0-clause-steps c = λ count less.
    let found = c.front_ends-ends-2.ensures.some (omega (arith, c.if-ends-eq0.false)) in
    omega (arith, less, found.1, c.requires.long, c.loop-at-test.false, c.loop-at.invariant.steps.1, c.loop-at.invariant.reads, c.add-2.ensures)
