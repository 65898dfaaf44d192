use Rattle.std.proofs.Common.{rules}
use Rattle.std.proofs.lemmas.List.{take_rest}
use Rattle.starlark_recovery.proofs.RestartPlaces.{after_line_end}
use Rattle.starlark_recovery.proofs.restarts.tab_line.Goals as goal

pub margin_line-requires : goal.margin_line-requires
margin_line-requires c = search (rules, take_rest, after_line_end)
