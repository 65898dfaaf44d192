use Rattle.std.proofs.Common.{arith}
use Rattle.std.proofs.lemmas.Result.{err_from_is_err_and}
use Rattle.starlark_run.specs.declared.ends.TheConstants.{GREATEST_LEN}
use Rattle.starlark_tokens.proofs.WholeReads.{read_more, read_whole, unreadable}
use Rattle.starlark_tokens.proofs.files.sources.read_source_bytes.Goals as goal

pub returns-clause-whole : goal.returns-clause-whole
returns-clause-whole g c =
    read_whole (g.R.Read.remaining c.args.reader) c.read_to_end.new.buf.items GREATEST_LEN
    (rw (c.take.ensures.limit, c.take.ensures.inner, c.new-bytes.ensures.items) at c.in_ok-read_to_end.ensures.bytes)
    (omega (arith, c.len.ensures, c.if-len-gt-GREATEST_LEN.false))

pub returns-in_err-read_to_end-clause-fault : goal.returns-in_err-read_to_end-clause-fault
returns-in_err-read_to_end-clause-fault g c =
    let p = err_from_is_err_and c.from_residual.result c.from_residual.ensures.1 in
    rw (p.1, p.2) (unreadable (g.R.Read.remaining c.args.reader) c.in_err-read_to_end.field-0.0)

pub returns-then-len-gt-GREATEST_LEN-clause-fault : goal.returns-then-len-gt-GREATEST_LEN-clause-fault
returns-then-len-gt-GREATEST_LEN-clause-fault g c =
    read_more (g.R.Read.remaining c.args.reader) c.read_to_end.new.buf.items GREATEST_LEN
    (rw (c.take.ensures.limit, c.take.ensures.inner, c.new-bytes.ensures.items) at c.in_ok-read_to_end.ensures.bytes)
    (omega (arith, c.len.ensures, c.if-len-gt-GREATEST_LEN.true))
