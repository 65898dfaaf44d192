use Rattle.std.proofs.Common.{sym, ◌∙◌, ◌==◌, string_bytes}
use Rattle.std.specs.Cmp.Lexicographic.{pointwise}
use Rattle.std.specs.Cmp.Derive.Mapped.{pointwise-map}
use Rattle.starlark_base.proofs.call_stack.CallStackPartialEq.eq.Goals as goal

pub returns : goal.returns
returns c = rw (← c.frames.ensures, ← c.frames-2.ensures) (c.eq.ensures ∙ sym (pointwise-map string_bytes (pointwise ◌==◌) c.frames.result.now c.frames-2.result.now))
