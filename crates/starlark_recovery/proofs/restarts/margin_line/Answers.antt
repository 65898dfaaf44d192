use Rattle.std.proofs.Common.{rules}
use Rattle.starlark_recovery.proofs.RestartPlaces.{margin_blanks}
use Rattle.starlark_recovery.proofs.restarts.margin_line.Goals as goal

pub returns-clause-reads : goal.returns-clause-reads
returns-clause-reads c = search (rules, margin_blanks)
