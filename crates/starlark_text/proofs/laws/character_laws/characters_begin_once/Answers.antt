use Rattle.starlark_text.proofs.CountedCharacters.{begun_count}
use Rattle.starlark_text.proofs.laws.character_laws.characters_begin_once.Goals as goal

pub returns : goal.returns
returns c = begun_count
