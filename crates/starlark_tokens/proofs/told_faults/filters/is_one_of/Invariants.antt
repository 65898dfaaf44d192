use Rattle.std.proofs.Common.{◌≡◌, drop, map}
use Rattle.starlark_tokens.specs.ToldFaults.Filters.{is_one_of}
use Rattle.starlark_tokens.proofs.told_faults.filters.is_one_of.Given as goal

-- the word is one of the texts that are left if it is one of all
abbrev pub invariant-loop-text : goal.invariant-loop-text
invariant-loop-text l = is_one_of (map (λ text. text.items) (drop l.text-index l.texts)) l.word ≡ is_one_of (map (λ text. text.items) l.texts) l.word
