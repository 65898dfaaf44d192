use Rattle.std.proofs.Common.{[], false, ◌≡◌, ◌∙◌, arith, refl}
use Rattle.std.proofs.lemmas.Result.{err_from_is_err_and}
use Rattle.starlark_run.proofs.BufferedWrites.{sends_flush, sends_less}
use Rattle.starlark_run.proofs.Writing.{writes_all_failed, writes_all_flushed, writes_all_unflushed, writes_sound}
use Rattle.starlark_run.proofs.buffer.Buffer.finish.Goals as goal

pub returns-in_err-send-clause-writes : goal.returns-in_err-send-clause-writes
returns-in_err-send-clause-writes g c =
    let p = err_from_is_err_and c.from_residual.result c.from_residual.ensures.1 in
    rw (p.1, p.2) (writes_all_failed g.W.WriteDevice.calls _ _ c.args.writer.now c.send.new.writer c.args.self.now [] c.in_err-send.field-0.0 c.in_err-send.ensures.writes)

pub returns-in-Ok-clause-writes : goal.returns-in-Ok-clause-writes
returns-in-Ok-clause-writes g c =
    let sound : c.send.new.writer.failed ≡ false = writes_sound _ _ _ _ _ _ c.in_ok-send.ensures.writes in
    writes_all_flushed g.W.WriteDevice.calls _ c.args.writer.now c.send.new.writer c.flush.new.self c.args.self.now tt tt c.in_ok-send.ensures.writes c.in-Ok.ensures.bytes c.in-Ok.ensures.call (c.in-Ok.ensures.failed ∙ rw sound refl)

pub returns-in-Err-clause-writes : goal.returns-in-Err-clause-writes
returns-in-Err-clause-writes g c =
    let sound : c.send.new.writer.failed ≡ false = writes_sound _ _ _ _ _ _ c.in_ok-send.ensures.writes in
    writes_all_unflushed g.W.WriteDevice.calls _ c.args.writer.now c.send.new.writer c.flush.new.self c.args.self.now tt _ c.in_ok-send.ensures.writes c.in-Err.ensures.bytes c.in-Err.ensures.call (c.in-Err.ensures.failed ∙ rw sound refl)

pub returns-in_err-send-clause-blocks : goal.returns-in_err-send-clause-blocks
returns-in_err-send-clause-blocks g c = c.in_err-send.ensures.blocks

pub returns-in-Ok-clause-blocks : goal.returns-in-Ok-clause-blocks
returns-in-Ok-clause-blocks g c =
    sends_flush g.W.WriteDevice.calls _ _ _ _ _ _ (sends_less g.W.WriteDevice.calls _ _ _ _ _ (omega arith) c.in_ok-send.ensures.blocks) c.in-Ok.ensures.call

pub returns-in-Err-clause-blocks : goal.returns-in-Err-clause-blocks
returns-in-Err-clause-blocks g c =
    sends_flush g.W.WriteDevice.calls _ _ _ _ _ _ (sends_less g.W.WriteDevice.calls _ _ _ _ _ (omega arith) c.in_ok-send.ensures.blocks) c.in-Err.ensures.call
