use Rattle.std.proofs.Common.{◌≡◌, ◌∙◌, Bool, true, false, ap, length, map, not, refl}
use Rattle.std.proofs.lemmas.Simd.{length-chunk}
use lib.Lanes.{chunk}
use Rattle.starlark_grammar.specs.Words.{is_in_name}
use Rattle.starlark_words.proofs.LaneRuns.{lanes_marked, marked_as}
use Rattle.starlark_words.proofs.NameLanes.{name_lanes, turned_lanes}
use Rattle.starlark_words.proofs.names.name_ends.Goals as goal

twice : (b : Bool) → not (not b) ≡ b
twice true = refl
twice false = refl

pub returns : goal.returns
returns c =
    let v = chunk 0 16 c.args.text.now in
    let long : length v ≡ 16 = length-chunk 0 16 c.args.text.now c.requires in
    marked_as (λ b. not (not (is_in_name b))) is_in_name (λ b. twice (is_in_name b)) v _ (lanes_marked (λ b. not (is_in_name b)) v _ long (ap (map _) (name_lanes v long) ∙ turned_lanes _ refl refl is_in_name v))
