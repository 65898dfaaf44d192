-- Writes of a buffer.
use Rattle.std.specs.Prelude.{◌≤◌, ◌+◌, ◌*◌, ℕ, List, length, count_by, Result, Ok, Err}
use Rattle.std.specs.List.{flat_map}
use Rattle.starlark_devices.specs.Calls.{WriterCalls, WriterCall, WasWritten, taken_by}
use Rattle.starlark_run.specs.Blocks.{block_len, took_all}

-- a writer was called while a buffer that held `before` bytes came to hold `after` bytes: the writes
-- that took all they were offered are few
unfoldable pub Sends : {W : Type 0} → WriterCalls W → (old new : W) → (before after : ℕ) → Type 0
Sends {W = W} calls old new before after =
    (log : List (WriterCall W)) × WasWritten calls old log new × (block_len * count_by took_all log + before ≤ 2 * length (flat_map taken_by log) + after)

-- that, by the result of a step; after a failure the buffer may be full
abbrev pub SendsBy : {W T E : Type 0} → WriterCalls W → (old new : W) → (before after : ℕ) → Result T E → Type 0
SendsBy calls old new before after (Ok x) = Sends calls old new before after
SendsBy calls old new before after (Err error) = Sends calls old new before block_len
