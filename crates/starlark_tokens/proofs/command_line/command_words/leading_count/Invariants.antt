use Rattle.std.proofs.Common.{◌≡◌, ◌+◌, drop, map}
use Rattle.starlark_tokens.specs.CommandLine.CommandWords.{leading_count}
use Rattle.starlark_tokens.proofs.command_line.command_words.leading_count.Given as goal

-- the words so far are none of them `--`
abbrev pub invariant-loop-index : goal.invariant-loop-index
invariant-loop-index l = l.index + leading_count (map (λ word. word.items) (drop l.index l.arguments)) ≡ leading_count (map (λ word. word.items) l.arguments)
