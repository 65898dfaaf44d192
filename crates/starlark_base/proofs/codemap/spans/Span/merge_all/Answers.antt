use Rattle.std.proofs.Common.{◌∷◌, rules}
use Rattle.starlark_base.proofs.codemap.spans.Span.merge_all.Goals as goal

pub returns : goal.returns
returns g c = (c.in-Some.merged ∷ c.loop-span.yielded, search rules, search rules)
