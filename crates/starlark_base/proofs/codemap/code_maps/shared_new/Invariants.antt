use Rattle.std.proofs.Common.{◌≡◌, ◌++◌, not, is_some, nat_eq, filter}
use Rattle.std.specs.HashMap.{get}
use Rattle.starlark_base.proofs.codemap.code_maps.shared_new.Given as goal

abbrev pub invariant-loop-id : goal.invariant-loop-id
invariant-loop-id l =
    l.new.items ++ filter (λ e. not (is_some (get nat_eq l.codemaps e.0))) l.id-iterator ≡ filter (λ e. not (is_some (get nat_eq l.codemaps e.0))) l.others.entries
