use Rattle.std.proofs.Common.{None, Some, false, refl}
use Rattle.starlark_reader.proofs.TakenMargins.PendingLexemes.{after_first}
use Rattle.starlark_reader.proofs.pending.Pending.next_token.Goals as goal

pub returns-clause-next : goal.returns-clause-next
returns-clause-next c = λ text is. after_first text c.args.self.now c.next.new.self false (Some c.in_ok-first.first) is c.requires.none c.in_ok-first.ensures.first (λ e. cc)

pub returns-in_err-first-clause-next : goal.returns-in_err-first-clause-next
returns-in_err-first-clause-next c = λ text is. rw c.from_residual.ensures (after_first text c.args.self.now c.next.new.self c.args.self.now.is_flat None is c.requires.none c.in_err-first.ensures.first (λ e. refl))
