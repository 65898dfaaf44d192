use Rattle.std.proofs.Common.{subst, sym}
use Rattle.std.specs.Str.{IsUtf8}
use Rattle.starlark_base.proofs.Pairs.{position_start}
use Rattle.starlark_tokens.proofs.files.sources.byte_after.Goals as goal

pub moved-requires-clause-here : goal.moved-requires-clause-here
moved-requires-clause-here c = position_start c.in-Ok.front.now (subst IsUtf8 (sym c.in-Ok.ensures.cases.0) c.in-Ok.ensures.cases.1)
