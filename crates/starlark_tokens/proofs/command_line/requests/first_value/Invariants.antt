use Rattle.std.proofs.Common.{◌≡◌, drop, map}
use Rattle.starlark_tokens.specs.CommandLine.Requests.{first_value}
use Rattle.starlark_tokens.proofs.command_line.requests.first_value.Given as goal

-- the first value is among the words that are left
abbrev pub invariant-loop-word : goal.invariant-loop-word
invariant-loop-word l = first_value l.option (map (λ word. word.items) (drop l.word-index l.words)) ≡ first_value l.option (map (λ word. word.items) l.words)
