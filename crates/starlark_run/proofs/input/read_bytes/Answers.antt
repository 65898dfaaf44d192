use Rattle.std.proofs.Common.{◌≡◌, ◌≤◌, ◌<◌, ◌+◌, ap, true, false, length, take, drop, refl, ◌∙◌, take-add, length-drop, length-take, arith}
use Rattle.starlark_devices.proofs.Calls.{came_end, came_failed, came_more, came_nil, came_told}
use Rattle.starlark_run.proofs.BlockReads.{reads_end, reads_more, reads_on, reads_start, rest_grown}
use Rattle.starlark_run.specs.Blocks.{block_len}
use Rattle.starlark_run.proofs.Writing.{is_nothing-some, is_nothing-none}
use Rattle.starlark_run.proofs.input.read_bytes.Goals as goal

pub returns-in-Ok-eq0-clause-read : goal.returns-in-Ok-eq0-clause-read
returns-in-Ok-eq0-clause-read g c =
    let inv = c.loop-filled.invariant in
    let filled = c.loop-filled.filled in
    let bytes = c.read_after.new.bytes.items in
    let front : take filled bytes ≡ take filled c.loop-filled.bytes.items = c.in-Ok-eq0.ensures.front ∙ c.in_ok-make_room.ensures.front in
    let none = rw c.in-Ok-eq0.field-0-test at c.in-Ok-eq0.ensures.bytes.0 in
    let call = rw c.in-Ok-eq0.field-0-test at c.in-Ok-eq0.ensures.call in
    let room : 0 < length (drop filled bytes) = omega (arith, c.in_ok-make_room.ensures.room, c.in-Ok-eq0.ensures.len, length-drop filled bytes) in
    let came = came_end g.R.ReadDevice.calls _ _ _ _ (drop filled bytes) inv.came none (c.in-Ok-eq0.ensures.bytes.1 c.in-Ok-eq0.field-0-test room) call room in
    let ended : c.read_after.new.reader.ended ≡ true = c.in-Ok-eq0.ensures.ended ∙ rw inv.not_ended (is_nothing-none _ _ c.in-Ok-eq0.field-0-test room) in
    let sound : c.read_after.new.reader.failed ≡ false = c.in-Ok-eq0.ensures.failed ∙ rw inv.sound refl in (
      take filled bytes,
      came_told g.R.ReadDevice.calls _ _ _ _ _ _ _ ended sound (rw front came),
      (record { ended = ended; sound = sound; fits = omega (arith, length-take filled bytes) }, c.truncate.ensures.items),
    )

pub loop-filled-preserved : goal.loop-filled-preserved
loop-filled-preserved g c =
    let inv = c.loop-filled.invariant in
    let filled = c.loop-filled.filled in
    let bytes = c.read_after.new.bytes.items in
    let front : take filled bytes ≡ take filled c.loop-filled.bytes.items = c.in-Ok.ensures.front ∙ c.in_ok-make_room.ensures.front in
    let some = c.in-Ok.count-test.1 in
    let room = drop filled bytes in
    let len : filled + length room ≡ length bytes = omega (arith, length-drop filled bytes, c.in-Ok.ensures.within) in
    let large : block_len ≤ length room = omega (arith, len, c.in_ok-make_room.ensures.room, c.in-Ok.ensures.len) in
    let grown = rest_grown filled (length room) (length c.loop-filled.bytes.items) (length c.make_room.new.bytes.items) (len ∙ c.in-Ok.ensures.len) c.in_ok-make_room.ensures.grown in
    record {
      within = c.in-Ok.ensures.within;
      came = rw (take-add filled c.in-Ok.count bytes, front) (came_more g.R.ReadDevice.calls _ _ _ _ (drop filled bytes) c.in-Ok.count inv.came c.in-Ok.ensures.bytes.0 c.in-Ok.ensures.call (omega (arith, some)));
      blocks = reads_on g.R.ReadDevice.calls c.args.reader.now.device c.loop-filled.reader.device c.read_after.new.reader.device filled (length c.loop-filled.bytes.items) c.in-Ok.count (length bytes) room inv.blocks c.in-Ok.ensures.call large grown len (omega (arith, len, c.in-Ok.ensures.within));
      sound = c.in-Ok.ensures.failed ∙ rw inv.sound refl;
      not_ended = c.in-Ok.ensures.ended ∙ rw inv.not_ended (is_nothing-some _ _ c.in-Ok.count-test.1);
    }

pub loop-filled-init : goal.loop-filled-init
loop-filled-init g c = record {
  within = omega arith;
  came = came_nil g.R.ReadDevice.calls c.args.reader.now.device;
  blocks = reads_start g.R.ReadDevice.calls c.args.reader.now.device _ (ap length c.new-bytes.ensures.items);
  sound = c.requires.sound;
  not_ended = c.requires.not_ended;
}

pub returns-in-Err-clause-read : goal.returns-in-Err-clause-read
returns-in-Err-clause-read g c =
    let inv = c.loop-filled.invariant in
    let filled = c.loop-filled.filled in
    let came = came_failed g.R.ReadDevice.calls _ _ _ _ (drop filled c.read_after.new.bytes.items) _ inv.came c.in-Err.ensures.bytes c.in-Err.ensures.call in
    let not_ended : c.read_after.new.reader.ended ≡ false = c.in-Err.ensures.ended ∙ rw inv.not_ended refl in
    let failed : c.read_after.new.reader.failed ≡ true = c.in-Err.ensures.failed ∙ rw inv.sound refl in (
      take filled c.loop-filled.bytes.items,
      came_told g.R.ReadDevice.calls _ _ _ _ _ _ _ not_ended failed came,
      record { not_ended = not_ended; failed = failed; fits = omega (arith, c.loop-filled-test.true, length-take filled c.loop-filled.bytes.items) },
    )

pub returns-in-Ok-eq0-clause-blocks : goal.returns-in-Ok-eq0-clause-blocks
returns-in-Ok-eq0-clause-blocks g c =
    let inv = c.loop-filled.invariant in
    let filled = c.loop-filled.filled in
    let bytes = c.read_after.new.bytes.items in
    let room = drop filled bytes in
    let fits : filled ≤ length bytes = omega (arith, c.in_ok-make_room.ensures.within, c.in-Ok-eq0.ensures.len) in
    let len : filled + length room ≡ length bytes = omega (arith, length-drop filled bytes, fits) in
    let large : block_len ≤ length room = omega (arith, len, c.in_ok-make_room.ensures.room, c.in-Ok-eq0.ensures.len) in
    let grown = rest_grown filled (length room) (length c.loop-filled.bytes.items) (length c.make_room.new.bytes.items) (len ∙ c.in-Ok-eq0.ensures.len) c.in_ok-make_room.ensures.grown in
    reads_end g.R.ReadDevice.calls _ _ _ _ (reads_more g.R.ReadDevice.calls _ _ _ filled (length c.loop-filled.bytes.items) room _ inv.blocks c.in-Ok-eq0.ensures.call large grown)

pub returns-in-Err-clause-blocks : goal.returns-in-Err-clause-blocks
returns-in-Err-clause-blocks g c =
    let inv = c.loop-filled.invariant in
    let filled = c.loop-filled.filled in
    let bytes = c.read_after.new.bytes.items in
    let room = drop filled bytes in
    let fits : filled ≤ length bytes = omega (arith, c.in_ok-make_room.ensures.within, c.in-Err.ensures.len) in
    let len : filled + length room ≡ length bytes = omega (arith, length-drop filled bytes, fits) in
    let large : block_len ≤ length room = omega (arith, len, c.in_ok-make_room.ensures.room, c.in-Err.ensures.len) in
    let grown = rest_grown filled (length room) (length c.loop-filled.bytes.items) (length c.make_room.new.bytes.items) (len ∙ c.in-Err.ensures.len) c.in_ok-make_room.ensures.grown in
    reads_end g.R.ReadDevice.calls _ _ _ _ (reads_more g.R.ReadDevice.calls _ _ _ filled (length c.loop-filled.bytes.items) room _ inv.blocks c.in-Err.ensures.call large grown)

pub returns-in_err-make_room-clause-blocks : goal.returns-in_err-make_room-clause-blocks
returns-in_err-make_room-clause-blocks g c = reads_end g.R.ReadDevice.calls _ _ _ _ c.loop-filled.invariant.blocks

pub returns-clause-blocks : goal.returns-clause-blocks
returns-clause-blocks g c = reads_end g.R.ReadDevice.calls _ _ _ _ c.loop-filled.invariant.blocks
