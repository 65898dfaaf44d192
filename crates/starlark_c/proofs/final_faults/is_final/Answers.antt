use Rattle.std.proofs.Common.{arith, length, refl}
use Rattle.std.proofs.lemmas.Bool.{le-ltb, lt-ltb}
use Rattle.starlark_c.proofs.FinalFaults.{final}
use Rattle.starlark_grammar.specs.Joining.{is_decided}
use Rattle.starlark_c.proofs.final_faults.is_final.Goals as goal

pub returns-then-fault_end-front : goal.returns-then-fault_end-front
unfolding is_decided
returns-then-fault_end-front c =
    final c.args.front.now c.args.fault_end _ (λ fault same. rw (same, lt-ltb c.args.fault_end (length c.args.front.now) c.if-fault_end-front.true) c.ends_with.ensures.value)

pub returns-else-fault_end-front : goal.returns-else-fault_end-front
unfolding is_decided
returns-else-fault_end-front c =
    final c.args.front.now c.args.fault_end _ (λ fault same. rw (same, le-ltb c.args.fault_end (length c.args.front.now) (omega (arith, c.if-fault_end-front.false))) refl)
