use Rattle.std.proofs.Common.{◌≡◌, ◌++◌, [], length, length-append, sym, ap, ◌∙◌, ◌≤◌, arith}
use Rattle.std.proofs.lemmas.Bool.{eqb-true, eqb-false}
use Rattle.std.proofs.lemmas.List.{nil_from_length}
use Rattle.std.proofs.lemmas.Result.{err_from_is_err_and}
use Rattle.starlark_run.proofs.BufferedWrites.{room_left, sends_less, sends_text, sends_then_by}
use Rattle.starlark_run.proofs.Writing.{on_ok, fits_empty, fits_room, writes_more, writes_stopped, writes_memory, writes_held, writes_sound}
use Rattle.starlark_run.proofs.buffer.Buffer.put.Goals as goal
use Rattle.starlark_run.proofs.buffer.Buffer.put.Goals.{else-is_empty-via-then-is_empty+else-text-ge-BUFFER_LEN, else-is_empty-via-else-is_empty}
use Rattle.starlark_run.specs.declared.buffer.TheConstants.{BUFFER_LEN}

pub returns-in_err-make_room : goal.returns-in_err-make_room
returns-in_err-make_room g c =
    let p = err_from_is_err_and c.from_residual.result c.from_residual.ensures.1 in
    rw (p.1, p.2) (record { held = tt; writes = writes_stopped _ _ _ _ _ _ _ _ _ _ c.in_err-make_room.ensures.writes; blocks = c.in_err-make_room.ensures.blocks })

pub returns-then-text-ge-BUFFER_LEN : goal.returns-then-text-ge-BUFFER_LEN
returns-then-text-ge-BUFFER_LEN g c =
    let calls = g.W.WriteDevice.calls in
    let none : c.make_room.new.self ≡ [] = sym c.self.view_is ∙ nil_from_length _ (sym c.self.inside.waiting.ok.0 ∙ eqb-true _ 0 (sym c.if-is_empty.ensures)) in
    let rest = c.write_all.ensures in
    let room = sends_less calls _ _ _ _ BUFFER_LEN (omega arith) (rw none at c.in_ok-make_room.ensures.blocks) in
    let sent = sends_text calls _ _ _ _ c.args.text.now BUFFER_LEN 0 c.write_all.result rest.offers (omega arith) (omega arith) (omega (arith, c.if-text-ge-BUFFER_LEN)) in
    rw none (record {
      held = on_ok c.write_all.result (omega arith);
      writes = writes_more _ _ _ _ _ _ _ _ _ _ (rw none at c.in_ok-make_room.ensures.writes) rest.writes;
      blocks = sends_then_by calls _ _ _ _ _ _ BUFFER_LEN 0 c.write_all.result room sent;
    })

pub returns-in_err-extend_from_slice : goal.returns-in_err-extend_from_slice
returns-in_err-extend_from_slice g c =
    let p = err_from_is_err_and c.from_residual-in_err-extend_from_slice.result c.from_residual-in_err-extend_from_slice.ensures.1 in
    rw (p.1, p.2) (record { held = tt; writes = writes_memory _ _ _ _ _ _ _ _ _ _ c.in_ok-make_room.ensures.writes; blocks = sends_less g.W.WriteDevice.calls _ _ _ _ _ (room_left _ _ c.in_ok-make_room.ensures.room) c.in_ok-make_room.ensures.blocks })

pub returns : goal.returns
returns g c =
    rw (c.in_ok-extend_from_slice.ensures.items, c.self.view_is) (record {
      held = held;
      writes = writes_held _ _ _ _ _ _ _ _ c.in_ok-make_room.ensures.writes;
      blocks = sends_less g.W.WriteDevice.calls _ _ _ _ _ (omega (arith, length-append c.make_room.new.self c.args.text.now)) c.in_ok-make_room.ensures.blocks;
    })
  where
    held : length (c.make_room.new.self ++ c.args.text.now) ≤ BUFFER_LEN
    held = elim c.else-is_empty.branch [
      | else-is_empty-via-then-is_empty+else-text-ge-BUFFER_LEN w ↦ fits_empty c.make_room.new.self c.args.text.now BUFFER_LEN c.in_ok-make_room.ensures.room (omega (arith, w.if-text-ge-BUFFER_LEN))
      | else-is_empty-via-else-is_empty w ↦ fits_room c.make_room.new.self c.args.text.now BUFFER_LEN c.in_ok-make_room.ensures.room (λ none. eqb-false _ 0 (sym w.if-is_empty.ensures) (c.self.inside.waiting.ok.0 ∙ ap length (c.self.view_is ∙ none)))
    ]

pub write_all-requires : goal.write_all-requires
write_all-requires g c = writes_sound _ _ _ _ _ _ c.in_ok-make_room.ensures.writes
