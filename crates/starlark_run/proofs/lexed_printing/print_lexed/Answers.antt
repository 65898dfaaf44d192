use Rattle.std.proofs.Common.{arith}
use Rattle.std.proofs.lemmas.Result.{err_from_is_err_and}
use Rattle.starlark_run.proofs.BufferedWrites.{in_blocks, sends_none, sends_then}
use Rattle.starlark_run.proofs.Writing.{writes_all_failed, writes_all_refused, writes_all_stopped, writes_all_then, writes_sound}
use Rattle.starlark_run.proofs.lexed_printing.print_lexed.Goals as goal

pub returns-in_err-printer-clause-writes : goal.returns-in_err-printer-clause-writes
returns-in_err-printer-clause-writes g c =
    let p = err_from_is_err_and c.from_residual.result c.from_residual.ensures.1 in
    rw (p.1, p.2) (writes_all_refused _ _ _ _ c.requires.sound)

pub returns-in_err-status-clause-writes : goal.returns-in_err-status-clause-writes
returns-in_err-status-clause-writes g c =
    let p = err_from_is_err_and c.from_residual-in_err-status.result c.from_residual-in_err-status.ensures.1 in
    rw (p.1, p.2) (writes_all_failed _ _ _ _ _ _ _ _ (rw c.in_ok-printer.ensures at c.in_err-status.ensures.writes))

pub finish-requires-clause-sound : goal.finish-requires-clause-sound
finish-requires-clause-sound g c = writes_sound _ _ _ _ _ _ c.in_ok-status.ensures.writes

pub returns-in_err-finish-clause-writes : goal.returns-in_err-finish-clause-writes
returns-in_err-finish-clause-writes g c =
    let p = err_from_is_err_and c.from_residual-in_err-finish.result c.from_residual-in_err-finish.ensures.1 in
    let all = rw c.in_ok-printer.ensures at c.in_ok-status.ensures.writes in
    rw (p.1, p.2) (writes_all_stopped _ _ _ _ _ _ _ _ _ _ all c.in_err-finish.ensures.writes)

pub returns-clause-writes : goal.returns-clause-writes
returns-clause-writes g c =
    let all = rw c.in_ok-printer.ensures at c.in_ok-status.ensures.writes in
    writes_all_then _ _ _ _ _ _ _ _ _ _ all c.in_ok-finish.ensures.writes

pub returns-in_err-printer-clause-blocks : goal.returns-in_err-printer-clause-blocks
returns-in_err-printer-clause-blocks g c = in_blocks g.W.WriteDevice.calls _ _ (sends_none g.W.WriteDevice.calls c.args.writer.now.device _ _ (omega arith))

pub returns-in_err-status-clause-blocks : goal.returns-in_err-status-clause-blocks
returns-in_err-status-clause-blocks g c = in_blocks g.W.WriteDevice.calls _ _ (rw c.in_ok-printer.ensures at c.in_err-status.ensures.blocks)

pub returns-in_err-finish-clause-blocks : goal.returns-in_err-finish-clause-blocks
returns-in_err-finish-clause-blocks g c =
    in_blocks g.W.WriteDevice.calls _ _ (sends_then g.W.WriteDevice.calls _ _ _ _ _ _ (rw c.in_ok-printer.ensures at c.in_ok-status.ensures.blocks) c.in_err-finish.ensures.blocks)

pub returns-clause-blocks : goal.returns-clause-blocks
returns-clause-blocks g c =
    in_blocks g.W.WriteDevice.calls _ _ (sends_then g.W.WriteDevice.calls _ _ _ _ _ _ (rw c.in_ok-printer.ensures at c.in_ok-status.ensures.blocks) c.in_ok-finish.ensures.blocks)
