use Rattle.std.proofs.Common.{◌≡◌, ◌++◌, drop, map}
use Rattle.std.specs.List.{flat_map}
use Rattle.starlark_tokens.specs.Files.NameLists.{names_between}
use Rattle.starlark_tokens.proofs.told_faults.ignore_comments.codes_of.Given as goal

-- the codes so far, and those of the words that are left
abbrev pub invariant-loop-word : goal.invariant-loop-word
invariant-loop-word l =
    map (λ code. code.items) l.codes.items ++ flat_map (names_between 44) (map (λ word. word.items) (drop l.word-index l.words))
    ≡ flat_map (names_between 44) (map (λ word. word.items) l.words)
