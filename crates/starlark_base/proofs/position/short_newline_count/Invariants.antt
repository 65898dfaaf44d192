use Rattle.std.proofs.Common.{◌≡◌, count_by, take}
use Rattle.starlark_base.specs.Places.{is_lf}
use Rattle.starlark_base.proofs.position.short_newline_count.Given as goal

abbrev pub invariant-loop-byte : goal.invariant-loop-byte
invariant-loop-byte l = l.count ≡ count_by is_lf (take l.byte-index l.bytes)
