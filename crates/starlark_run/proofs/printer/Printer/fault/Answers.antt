use Rattle.std.proofs.lemmas.Result.{err_from_is_err_and}
use Rattle.starlark_base.proofs.Pairs.{position_start}
use Rattle.starlark_run.proofs.BufferedWrites.{sends_none}
use Rattle.starlark_run.proofs.Writing.{writes_refused}
use Rattle.starlark_run.proofs.printer.Printer.fault.Goals as goal

pub nearest-begin-requires-clause-earlier : goal.nearest-begin-requires-clause-earlier
nearest-begin-requires-clause-earlier g c = position_start c.args.text.now c.utf8.text

pub returns-in_err-fault_line-clause-writes : goal.returns-in_err-fault_line-clause-writes
returns-in_err-fault_line-clause-writes g c =
    let p = err_from_is_err_and c.from_residual.result c.from_residual.ensures.1 in
    rw (p.1, p.2) (writes_refused _ _ _ _ _ c.requires.sound)

pub returns-clause-writes : goal.returns-clause-writes
returns-clause-writes g c = rw (c.as_bytes.ensures.value, c.in_ok-fault_line.ensures, c.nearest-begin.ensures, c.moved-end.ensures, c.get.ensures, c.begin.ensures, c.get-2.ensures, c.end.ensures) at c.put.ensures.writes

pub returns-in_err-fault_line-clause-blocks : goal.returns-in_err-fault_line-clause-blocks
returns-in_err-fault_line-clause-blocks g c =
    let p = err_from_is_err_and c.from_residual.result c.from_residual.ensures.1 in
    rw p.1 (sends_none g.W.WriteDevice.calls c.args.writer.now.device _ _ c.requires.held)
