use Rattle.std.proofs.Common.{◌≡◌, drop}
use Rattle.starlark_tokens.specs.ToldFaults.FaultHelps.{is_any_character}
use Rattle.starlark_tokens.proofs.told_faults.helps.is_any_character.Given as goal

-- the text is one of the characters that are left if it is one of all
abbrev pub invariant-loop-character : goal.invariant-loop-character
invariant-loop-character l = is_any_character (drop l.character-index l.characters) l.text ≡ is_any_character l.characters l.text
