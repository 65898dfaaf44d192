use Rattle.std.proofs.Common.{◌≡◌, fold}
use Rattle.starlark_base.specs.SpanPairs.{merged}
use Rattle.starlark_base.proofs.codemap.spans.Span.merge_all.Given as goal

abbrev pub invariant-loop-span : goal.invariant-loop-span
invariant-loop-span g l = l.merged ≡ fold merged l.initial.merged l.yielded
