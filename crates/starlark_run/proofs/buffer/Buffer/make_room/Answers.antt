use Rattle.std.proofs.Common.{◌≤◌, ◌+◌, ◌-◌, ap, arith, length, min}
use Rattle.starlark_run.proofs.BufferedWrites.{sends_less_by, sends_none}
use Rattle.starlark_run.proofs.Writing.{writes_waiting}
use Rattle.starlark_run.specs.Blocks.{block_len}
use Rattle.starlark_run.proofs.buffer.Buffer.make_room.Goals as goal
use Rattle.starlark_run.proofs.buffer.Buffer.make_room.Goals.{then-len-ge-BUFFER_LEN-via-then-len-ge-BUFFER_LEN, then-len-ge-BUFFER_LEN-via-else-len-ge-BUFFER_LEN+then-len}

pub returns-then-len-ge-BUFFER_LEN-clause-blocks : goal.returns-then-len-ge-BUFFER_LEN-clause-blocks
returns-then-len-ge-BUFFER_LEN-clause-blocks g c = sends_less_by g.W.WriteDevice.calls _ _ _ _ _ _ _ c.send.result full c.send.ensures.blocks
  where
    full : block_len - length c.args.self.now ≤ length c.send.new.self + min c.args.len block_len
    full = elim c.then-len-ge-BUFFER_LEN.branch [
      | then-len-ge-BUFFER_LEN-via-then-len-ge-BUFFER_LEN w ↦ omega (arith, w.if-len-ge-BUFFER_LEN)
      | then-len-ge-BUFFER_LEN-via-else-len-ge-BUFFER_LEN+then-len w ↦ omega (arith, w.if-len-ge-BUFFER_LEN, w.if-len, w.len.ensures, c.self.inside.waiting.ok.0, ap length c.self.view_is)
    ]

pub returns-clause-writes : goal.returns-clause-writes
returns-clause-writes g c = writes_waiting g.W.WriteDevice.calls c.args.writer.now c.args.self.now tt c.requires.sound

pub returns-clause-blocks : goal.returns-clause-blocks
returns-clause-blocks g c = sends_none g.W.WriteDevice.calls c.args.writer.now.device _ _ (omega arith)
