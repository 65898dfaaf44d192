use Rattle.std.proofs.lemmas.Result.{err_from_is_err_and}
use Rattle.starlark_run.proofs.BufferedWrites.{sends_none}
use Rattle.starlark_run.proofs.Writing.{writes_refused, writes_failed, writes_told}
use Rattle.starlark_run.proofs.printer.Printer.put_lexeme.Goals as goal

pub returns-in_err-lexeme_line-clause-writes : goal.returns-in_err-lexeme_line-clause-writes
returns-in_err-lexeme_line-clause-writes g c =
    let p = err_from_is_err_and c.from_residual.result c.from_residual.ensures.1 in
    rw (p.1, p.2) (writes_refused _ _ _ _ _ c.requires.sound)

pub returns-in_err-put-clause-writes : goal.returns-in_err-put-clause-writes
returns-in_err-put-clause-writes g c =
    let p = err_from_is_err_and c.from_residual-in_err-put.result c.from_residual-in_err-put.ensures.1 in
    let line = rw (c.moved-begin.ensures, c.moved-end.ensures) at c.in_ok-lexeme_line.ensures in
    rw (p.1, p.2) (writes_failed _ _ _ _ _ _ _ _ _ (rw (c.as_bytes.ensures.value, line) at c.in_err-put.ensures.writes))

pub returns-clause-writes : goal.returns-clause-writes
returns-clause-writes g c =
    let line = rw (c.moved-begin.ensures, c.moved-end.ensures) at c.in_ok-lexeme_line.ensures in
    writes_told _ _ _ _ _ _ _ _ (rw (c.as_bytes.ensures.value, line) at c.in_ok-put.ensures.writes)

pub returns-in_err-lexeme_line-clause-blocks : goal.returns-in_err-lexeme_line-clause-blocks
returns-in_err-lexeme_line-clause-blocks g c =
    let p = err_from_is_err_and c.from_residual.result c.from_residual.ensures.1 in
    rw p.1 (sends_none g.W.WriteDevice.calls c.args.writer.now.device _ _ c.requires.held)

pub returns-in_err-put-clause-blocks : goal.returns-in_err-put-clause-blocks
returns-in_err-put-clause-blocks g c =
    let p = err_from_is_err_and c.from_residual-in_err-put.result c.from_residual-in_err-put.ensures.1 in
    rw p.1 c.in_err-put.ensures.blocks
