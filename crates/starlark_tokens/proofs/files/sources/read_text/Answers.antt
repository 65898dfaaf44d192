use Rattle.std.proofs.Common.{string_bytes}
use Rattle.std.proofs.lemmas.Result.{err_from_is_err_and}
use Rattle.starlark_run.specs.declared.ends.TheConstants.{GREATEST_LEN}
use Rattle.starlark_tokens.proofs.WholeReads.{fault_is, text_fits, text_is}
use Rattle.starlark_tokens.proofs.files.sources.read_text.Goals as goal

pub returns-in_err-bytes-clause-fault : goal.returns-in_err-bytes-clause-fault
returns-in_err-bytes-clause-fault g c =
    let p = err_from_is_err_and c.from_residual.result c.from_residual.ensures.1 in
    rw (p.1, p.2) c.in_err-bytes.ensures.fault

pub returns-clause-short : goal.returns-clause-short
returns-clause-short g c = text_fits string_bytes (g.R.Read.remaining c.args.reader) _ GREATEST_LEN c.text_of.result c.in_ok-bytes.ensures.short c.text_of.ensures.text

pub returns-clause-whole : goal.returns-clause-whole
returns-clause-whole g c = text_is string_bytes (g.R.Read.remaining c.args.reader) _ c.text_of.result c.in_ok-bytes.ensures.whole c.text_of.ensures.text

pub returns-clause-fault : goal.returns-clause-fault
returns-clause-fault g c = fault_is string_bytes (g.R.Read.remaining c.args.reader) _ c.text_of.result c.in_ok-bytes.ensures.whole c.text_of.ensures.fault
