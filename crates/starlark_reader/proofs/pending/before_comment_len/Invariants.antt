use Rattle.std.proofs.Common.{◌-◌, ◌≤◌, length}
use Rattle.starlark_grammar.specs.Margins.{blanks_len}
use Rattle.starlark_reader.proofs.pending.before_comment_len.Given as goal

abbrev pub invariant-loop-len : goal.invariant-loop-len
invariant-loop-len l = l.len ≤ blanks_len l.lines

abbrev pub decreases-loop-len : goal.decreases-loop-len
decreases-loop-len l = length l.lines - l.len
