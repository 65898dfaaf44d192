use Rattle.starlark_words.proofs.Identifiers.EarlierIdentifiers.{identifiers_stay}
use Rattle.starlark_words.proofs.laws.identifiers_stay.Goals as goal

pub returns : goal.returns
returns c = identifiers_stay
