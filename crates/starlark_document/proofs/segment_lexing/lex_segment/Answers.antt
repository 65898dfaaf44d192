use Rattle.starlark_document.proofs.Costs.{whole_read}
use Rattle.starlark_document.proofs.segment_lexing.lex_segment.Goals as goal

pub returns-clause-whole : goal.returns-clause-whole
returns-clause-whole c = whole_read _ _ _ _ _ c.in_ok-segment.ensures.cut c.in_ok-is_cut.ensures.least
