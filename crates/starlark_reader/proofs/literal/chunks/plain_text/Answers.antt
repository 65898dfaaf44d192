use Rattle.starlark_reader.proofs.ReadLiterals.Chunks.{plain_before}
use Rattle.starlark_reader.proofs.literal.chunks.plain_text.Goals as goal

pub returns-clause-plain : goal.returns-clause-plain
returns-clause-plain c = rw (c.ok_or.ensures.value, c.chunk_before.ensures) (plain_before c.args.opening c.args.text.now c.in_ok-len.len c.in_ok-len.stop c.in_ok-len.ensures.plain)
