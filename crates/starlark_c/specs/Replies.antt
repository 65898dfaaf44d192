-- The statuses of replies, and changes as plain records.
use Rattle.std.specs.Prelude.{ℕ}
use Rattle.starlark_c.specs.declared.outcomes.TheConstants.{WHOLE, FULL, NOT_UTF8, TOO_LONG, MEMORY}
use Rattle.starlark_c.specs.declared.replies.TheConstants.{BAD_RANGE, CLOSED, OPENED}
use Rattle.starlark_c.specs.declared.replies.ChangeRecord.{ChangeRecord}
use Rattle.starlark_c.specs.declared.replies.Reply.{Reply}
use Rattle.starlark_c.specs.declared.replies.Reply.TheVariants as reply
use Rattle.starlark_document.specs.declared.document.Change.{Change}

-- the status of a reply
abbrev pub reply_status : Reply → ℕ
reply_status reply.Done = WHOLE
reply_status reply.Full = FULL
reply_status reply.NotUtf8 = NOT_UTF8
reply_status reply.TooLong = TOO_LONG
reply_status reply.Memory = MEMORY
reply_status reply.BadRange = BAD_RANGE
reply_status reply.Closed = CLOSED
reply_status reply.Opened = OPENED

-- a change as a record
abbrev pub change_record : Change → ChangeRecord
change_record change = record {
  begin = change.begin;
  old_end = change.old_end;
  new_end = change.new_end;
  lexed = change.lexed;
  starts = change.starts;
  reads = change.reads;
}
