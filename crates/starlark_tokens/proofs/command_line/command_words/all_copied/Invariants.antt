use Rattle.std.proofs.Common.{◌≡◌, ◌++◌, drop, map}
use Rattle.starlark_tokens.proofs.command_line.command_words.all_copied.Given as goal

-- the words so far, and those that are left
abbrev pub invariant-loop-word : goal.invariant-loop-word
invariant-loop-word l = map (λ word. word.items) l.words.items ++ map (λ word. word.items) (drop l.word-index l.arguments) ≡ map (λ word. word.items) l.arguments
