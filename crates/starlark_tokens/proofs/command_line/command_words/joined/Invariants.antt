use Rattle.std.proofs.Common.{◌≡◌, ◌++◌, drop, map, option_map}
use Rattle.starlark_tokens.specs.CommandLine.CommandWords.{joined, joined_after}
use Rattle.starlark_tokens.proofs.command_line.command_words.joined.Given as goal

-- the words so far, and those that come of what is left
abbrev pub invariant-loop-word : goal.invariant-loop-word
invariant-loop-word l =
    map (λ word. word.items) l.words.items ++ joined_after (option_map (λ option. option.now) l.waiting) (map (λ word. word.items) (drop l.word-index l.arguments))
    ≡ joined (map (λ word. word.items) l.arguments)
