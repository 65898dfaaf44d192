use Rattle.std.proofs.Common.{◌≡◌, drop, map}
use Rattle.starlark_tokens.specs.CommandLine.CommandWords.{is_any}
use Rattle.starlark_tokens.proofs.command_line.command_words.is_any.Given as goal

-- the word is one of the texts that are left if it is one of all
abbrev pub invariant-loop-text : goal.invariant-loop-text
invariant-loop-text l = is_any (map (λ text. text.now) (drop l.text-index l.texts)) l.word ≡ is_any (map (λ text. text.now) l.texts) l.word
