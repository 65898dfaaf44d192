use Rattle.std.proofs.Common.{◌∙◌}
use Rattle.starlark_text.proofs.CharacterOffsets.{char_at_place}
use Rattle.starlark_text.proofs.fast_string.at.Goals as goal

pub returns : goal.returns
returns c = c.char_from.ensures.answer ∙ char_at_place c.args.x.now c.args.i.0 c.in_ok-place.place c.utf8.x c.in_ok-place.ensures.value
