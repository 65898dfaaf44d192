use Rattle.std.proofs.Common.{arith}
use Rattle.starlark_reader.proofs.TakenMargins.MarginLines.{blank_before, blanks_end}
use Rattle.starlark_reader.proofs.pending.before_comment_len.Goals as goal

pub loop-len-preserved : goal.loop-len-preserved
loop-len-preserved c = blank_before c.args.lines.now c.loop-len.len c.requires.comment c.loop-len.invariant c.loop-len-test.true (λ hash. absurd (omega (arith, hash, c.if-lines-len-ne35.true)))

pub returns-after-loop-len-clause-value : goal.returns-after-loop-len-clause-value
returns-after-loop-len-clause-value c = blanks_end c.args.lines.now c.loop-len.len c.loop-len.invariant (λ inside. absurd (omega (arith, inside, c.loop-len-test.false)))

pub returns-else-lines-len-ne35-clause-value : goal.returns-else-lines-len-ne35-clause-value
returns-else-lines-len-ne35-clause-value c = blanks_end c.args.lines.now c.loop-len.len c.loop-len.invariant (λ inside. omega (arith, c.if-lines-len-ne35.false))
