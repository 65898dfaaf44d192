use Rattle.std.proofs.Common.{◌≡◌, ◌++◌, drop, map}
use Rattle.starlark_tokens.specs.Files.NameLists.{names_after, names_between}
use Rattle.starlark_tokens.proofs.files.name_lists.names_between.Given as goal

-- the names so far, and those that come of the name that has begun and of what is left
abbrev pub invariant-loop-byte : goal.invariant-loop-byte
invariant-loop-byte l =
    map (λ name. name.items) l.names.items ++ names_after l.separator l.name.items (drop l.byte-index l.list)
    ≡ names_between l.separator l.list
