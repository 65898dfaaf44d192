use Rattle.std.proofs.Common.{arith}
use Rattle.starlark_c.specs.Endings.{IsText}
use Rattle.starlark_c.proofs.Recovered.{done_none, recovers_memory}
use Rattle.starlark_c.proofs.AddedItems.{no_counts}
use Rattle.starlark_recovery.specs.RecoveringLexer.{all_items}
use Rattle.starlark_c.proofs.recovering.recover_into.Goals as goal

pub returns-in-None : goal.returns-in-None
returns-in-None c =
    let text = c.args.bytes.now in
    let is : IsText text = record { utf8 = c.in-Ok.ensures.cases.1; fits = omega (arith, c.if-bytes.false) } in
    recovers_memory text (all_items text) _ _ no_counts is (done_none (all_items text) (record { lexemes = c.args.lexemes.now; values = c.args.values.now; faults = c.args.faults.now }))
