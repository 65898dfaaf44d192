use Rattle.std.proofs.Common.{◌≡◌, ◌++◌, drop, map}
use Rattle.std.specs.List.{flat_map}
use Rattle.starlark_tokens.specs.Files.NameLists.{names_between}
use Rattle.starlark_tokens.proofs.told_faults.filters.listed.Given as goal

-- the words so far, and those of the values that are left
abbrev pub invariant-loop-value : goal.invariant-loop-value
invariant-loop-value l =
    map (λ word. word.items) l.words.items ++ flat_map (names_between 44) (map (λ value. value.now) (drop l.value-index l.values))
    ≡ flat_map (names_between 44) (map (λ value. value.now) l.values)
