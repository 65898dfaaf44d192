use Rattle.std.proofs.Common.{◌≡◌, drop}
use Rattle.starlark_tokens.specs.OutputFormats.CharacterWidths.{is_in}
use Rattle.starlark_tokens.proofs.output_formats.character_widths.is_in.Given as goal

-- the character is in one of the ranges that are left if it is in one of all
abbrev pub invariant-loop-first : goal.invariant-loop-first
invariant-loop-first l = is_in (drop l.first-index l.ranges) l.character ≡ is_in l.ranges l.character
