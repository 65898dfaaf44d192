use Rattle.std.proofs.Common.{◌≡◌, drop, map}
use Rattle.starlark_tokens.specs.ToldFaults.Filters.{begins_with_any}
use Rattle.starlark_tokens.proofs.told_faults.filters.begins_with_any.Given as goal

-- one of the texts that are left is such a front if one of all is
abbrev pub invariant-loop-front : goal.invariant-loop-front
invariant-loop-front l = begins_with_any (map (λ front. front.items) (drop l.front-index l.fronts)) l.code ≡ begins_with_any (map (λ front. front.items) l.fronts) l.code
