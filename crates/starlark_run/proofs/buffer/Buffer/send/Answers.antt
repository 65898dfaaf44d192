use Rattle.std.proofs.Common.{◌≡◌, ◌-◌, Err, Ok, arith, length, rules}
use Rattle.std.proofs.lemmas.Result.{err_from_is_err_and}
use Rattle.starlark_run.proofs.BufferedWrites.{sends_text}
use Rattle.starlark_run.specs.Blocks.{block_len}
use Rattle.starlark_run.specs.declared.ends.RunFault.{RunFault}
use Rattle.starlark_run.proofs.buffer.Buffer.send.Goals as goal

pub returns-in_err-write_all-clause-blocks : goal.returns-in_err-write_all-clause-blocks
returns-in_err-write_all-clause-blocks g c =
    let p = err_from_is_err_and c.from_residual.result c.from_residual.ensures.1 in
    let waiting = c.args.self.now in
    let text : c.as_slice.result.now ≡ waiting = search rules in
    rw p.1 (sends_text g.W.WriteDevice.calls (Unit {0}) RunFault _ _ waiting (length waiting) (block_len - length waiting) (Err c.in_err-write_all.field-0.0) (rw text at c.in_err-write_all.ensures.offers) c.requires.held (omega arith) (omega (arith, c.requires.held)))

pub returns-clause-blocks : goal.returns-clause-blocks
returns-clause-blocks g c =
    let waiting = c.args.self.now in
    let text : c.as_slice.result.now ≡ waiting = search rules in
    sends_text g.W.WriteDevice.calls (Unit {0}) RunFault _ _ waiting (length waiting) (block_len - length waiting) (Ok (tt {0})) (rw text at c.in_ok-write_all.ensures.offers) c.requires.held (omega arith) (omega (arith, c.requires.held))
