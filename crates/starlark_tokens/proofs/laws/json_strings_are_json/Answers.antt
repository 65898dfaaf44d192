use Rattle.std.proofs.Common.{[], ◌∷◌, ◌++◌, ap, map}
use Rattle.std.specs.Str.{chars}
use Rattle.starlark_tokens.specs.OutputFormats.JsonStrings.{json_string, piece_of}
use Rattle.starlark_tokens.proofs.JsonPieces.{all_allowed, all_meant, all_written}
use Rattle.starlark_tokens.proofs.laws.json_strings_are_json.Goals as goal

pub returns : goal.returns
unfolding json_string
returns c = λ text. record {
  pieces = map piece_of (chars text);
  allowed = all_allowed (chars text);
  meant = all_meant (chars text);
  written = ap (λ t. 34 ∷ (t ++ 34 ∷ [])) (all_written (chars text));
}
