use Rattle.std.proofs.Common.{arith}
use Rattle.starlark_document.proofs.segment_lexing.lex_front.Goals as goal

pub cost_of-requires : goal.cost_of-requires
cost_of-requires c = omega (arith, c.in_ok-is_cut.ensures.reads.few, c.requires.fits)
