use Rattle.std.proofs.Common.{rules}
use Rattle.starlark_reader.proofs.TakenPieces.PieceTaken.{plain_here}
use Rattle.starlark_reader.proofs.TakenPieces.ReaderReads.{text_run}
use Rattle.starlark_reader.proofs.reader.Reader.plain_text.Goals as goal

pub returns-clause-stands : goal.returns-clause-stands
returns-clause-stands c = search (rules, plain_here)

pub returns-clause-other : goal.returns-clause-other
returns-clause-other c = search (rules, text_run)
