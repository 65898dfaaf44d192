use Rattle.starlark_text.proofs.FormatReadings.{something_stands, never_both, one_piece, one_fault}
use Rattle.starlark_text.proofs.laws.format_laws.one_piece_or_fault.Goals as goal

pub returns-clause-something : goal.returns-clause-something
returns-clause-something c = something_stands

pub returns-clause-never_both : goal.returns-clause-never_both
returns-clause-never_both c = never_both

pub returns-clause-piece : goal.returns-clause-piece
returns-clause-piece c = one_piece

pub returns-clause-fault : goal.returns-clause-fault
returns-clause-fault c = one_fault
