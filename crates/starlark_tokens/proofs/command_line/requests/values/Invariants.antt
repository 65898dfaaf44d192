use Rattle.std.proofs.Common.{◌≡◌, ◌++◌, drop, map}
use Rattle.starlark_tokens.specs.CommandLine.Requests.{values}
use Rattle.starlark_tokens.proofs.command_line.requests.values.Given as goal

-- the values so far, and those in the words that are left
abbrev pub invariant-loop-word : goal.invariant-loop-word
invariant-loop-word l =
    map (λ value. value.now) l.values.items ++ values l.option (map (λ word. word.items) (drop l.word-index l.words))
    ≡ values l.option (map (λ word. word.items) l.words)
