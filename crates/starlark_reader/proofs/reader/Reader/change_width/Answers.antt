use Rattle.std.proofs.Common.{arith}
use Rattle.std.proofs.lemmas.Result.{on_ok_weaker}
use Rattle.starlark_reader.proofs.reader.Reader.change_width.Goals as goal

pub put_margin-requires-clause-margin : goal.put_margin-requires-clause-margin
put_margin-requires-clause-margin c = rw c.of_spaces.ensures c.requires.margin

pub put_margin-requires-clause-within : goal.put_margin-requires-clause-within
put_margin-requires-clause-within c = rw c.of_spaces.ensures (omega (arith, c.requires.within))

pub returns-clause-reads : goal.returns-clause-reads
returns-clause-reads c = on_ok_weaker c.put_margin.result (λ read before first there. read before (rw c.of_spaces.ensures (omega (arith, first), omega (arith, first))) there) c.put_margin.ensures.reads
