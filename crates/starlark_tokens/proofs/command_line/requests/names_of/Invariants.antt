use Rattle.std.proofs.Common.{◌≡◌, ◌++◌, drop, map}
use Rattle.starlark_tokens.specs.CommandLine.Requests.{leading, names, names_in}
use Rattle.starlark_tokens.proofs.command_line.requests.names_of.Given as goal

-- the names so far, and those that are left
abbrev pub invariant-loop-word : goal.invariant-loop-word
invariant-loop-word l = map (λ name. name.now) l.names.items ++ names_in (map (λ word. word.items) (drop l.word-index l.words.leading.items)) ≡ names_in (leading l.words)

abbrev pub invariant-loop-name : goal.invariant-loop-name
invariant-loop-name l = map (λ name. name.now) l.names.items ++ map (λ word. word.items) (drop l.name-index l.words.trailing.items) ≡ names l.words
