use Rattle.std.proofs.Common.{◌≡◌, drop, map}
use Rattle.starlark_tokens.specs.CommandLine.Requests.{has_short}
use Rattle.starlark_tokens.proofs.command_line.requests.has_short.Given as goal

-- the option is among the words that are left if it is among all
abbrev pub invariant-loop-word : goal.invariant-loop-word
invariant-loop-word l = has_short l.letter (map (λ word. word.items) (drop l.word-index l.words)) ≡ has_short l.letter (map (λ word. word.items) l.words)
