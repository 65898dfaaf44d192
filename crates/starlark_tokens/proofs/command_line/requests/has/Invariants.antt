use Rattle.std.proofs.Common.{◌≡◌, drop, map}
use Rattle.starlark_tokens.specs.CommandLine.Requests.{is_among}
use Rattle.starlark_tokens.proofs.command_line.requests.has.Given as goal

-- the option is among the words that are left if it is among all
abbrev pub invariant-loop-word : goal.invariant-loop-word
invariant-loop-word l = is_among l.option (map (λ word. word.items) (drop l.word-index l.words)) ≡ is_among l.option (map (λ word. word.items) l.words)
