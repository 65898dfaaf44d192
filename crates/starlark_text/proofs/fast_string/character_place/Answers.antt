use Rattle.std.proofs.Common.{subst, List, ℕ, ◌<◌, count_by, MatchOption}
use Rattle.starlark_text.specs.Characters.{starts_character}
use Rattle.starlark_text.specs.Inner.Begins.{IsBegin}
use Rattle.starlark_text.proofs.CharacterOffsets.{place_is, place_boundary_is}
use Rattle.starlark_text.proofs.fast_string.character_place.Goals as goal

pub returns-clause-value : goal.returns-clause-value
returns-clause-value c =
    place_is c.args.x.now c.args.i c.begin_of.result c.utf8.x
    (subst (λ (bytes : List ℕ). MatchOption c.begin_of.result (count_by starts_character bytes < c.args.i) (IsBegin bytes c.args.i)) c.as_bytes.ensures.value c.begin_of.ensures)

pub returns-clause-boundary : goal.returns-clause-boundary
returns-clause-boundary c =
    place_boundary_is c.args.x.now c.args.i c.begin_of.result
    (subst (λ (bytes : List ℕ). MatchOption c.begin_of.result (count_by starts_character bytes < c.args.i) (IsBegin bytes c.args.i)) c.as_bytes.ensures.value c.begin_of.ensures)
