use Rattle.std.proofs.Common.{◌+◌, ◌∙◌, ap, arith}
use Rattle.std.specs.Slice.Iter.{chunks_exact_rest}
use Rattle.starlark_base.proofs.CharacterCounts.{step_on}
use Rattle.starlark_base.proofs.codemap.character_counts.counts_of_steps.Goals as goal

pub loop-step-preserved : goal.loop-step-preserved
loop-step-preserved c =
    let before = c.loop-step.invariant in
    let step = c.in-Some.ensures.steps in
    let on = step_on 256 c.args.bytes.now c.loop-step.counts.items c.in-Some.step.now (chunks_exact_rest c.loop-step.step-iterator) (chunks_exact_rest c.next.new.self) c.loop-step.count (c.loop-step.count + c.count_starts.result)
    before.steps before.rest step.1.0 (step.1.1 ∙ before.size) (ap (λ n. c.loop-step.count + n) c.count_starts.ensures) in
    record {
      can_next = omega (arith, step.0, before.size);
      finite = tt;
      size = step.0 ∙ before.size;
      rest = on.0;
      steps = rw c.in_ok-push-2.ensures.items on.1;
    }
