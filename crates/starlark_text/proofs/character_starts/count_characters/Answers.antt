use Rattle.std.proofs.Common.{ap, ◌∙◌, count_by}
use Rattle.starlark_text.specs.Characters.{starts_character}
use Rattle.starlark_text.proofs.CountedCharacters.{begun_count}
use Rattle.starlark_text.proofs.character_starts.count_characters.Goals as goal

pub returns : goal.returns
returns c = c.count_starts.ensures ∙ ap (count_by starts_character) c.as_bytes.ensures.value ∙ begun_count c.args.text.now c.utf8.text
