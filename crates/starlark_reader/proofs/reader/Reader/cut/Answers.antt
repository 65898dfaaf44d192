use Rattle.starlark_reader.proofs.TakenPieces.MarginCuts.{cut_ahead}
use Rattle.std.proofs.Common.{rules}
use Rattle.starlark_reader.proofs.reader.Reader.cut.Goals as goal

pub returns-clause-kept : goal.returns-clause-kept
returns-clause-kept c = search (rules, cut_ahead)
