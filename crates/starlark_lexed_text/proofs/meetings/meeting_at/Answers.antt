use Rattle.std.proofs.Common.{◌≤◌, length, rules}
use Rattle.std.proofs.lemmas.Option.{slice_get-get_or}
use Rattle.starlark_lexed_text.specs.declared.cuts.Cut.{Cut}
use Rattle.starlark_lexed_text.proofs.Elements.{all_at}
use Rattle.starlark_lexed_text.proofs.meetings.meeting_at.Goals as goal

pub ends_alike-requires : goal.ends_alike-requires
ends_alike-requires c =
    (search rules, all_at (λ (cut : Cut). cut.at ≤ length c.args.known.now) c.args.known_cuts.now c.in_ok-index.index _ c.requires.cuts (search rules))

pub returns-clause-met : goal.returns-clause-met
returns-clause-met c = search (rules, slice_get-get_or)
