use Rattle.std.proofs.Common.{arith}
use Rattle.starlark_lexed_text.proofs.RelexedOutcomes.{begin_found}
use Rattle.starlark_lexed_text.proofs.cuts.begin_of.Goals as goal

pub returns : goal.returns
returns c = λ text are. begin_found text c.args.cuts.now c.args.from c.cuts_up_to-count.result _ are (omega (arith, c.if-count-eq0.false)) c.cuts_up_to-count.ensures.bound c.cuts_up_to-count.ensures.last c.cuts_up_to-count.ensures.beyond
