-- Reads and writes by blocks.
use Rattle.std.specs.Prelude.{◌≡◌, ◌≤◌, ◌+◌, ◌*◌, ◌⊎◌, ◌==◌, ◌&&◌, ℕ, Bool, false, not, List, [], ◌∷◌, length, count_by, Ok, ⊤}
use Rattle.std.specs.List.{flat_map}
use Rattle.starlark_devices.specs.Calls.{ReaderCalls, ReadCall, WasRead, given_by, WriterCalls, WriterCall, Wrote, WasWritten, taken_by}

-- the length of a block, in bytes
abbrev pub block_len : ℕ
block_len = 65536

-- each read had room for a block, in a buffer that held the bytes read before it; the buffer was as
-- long as before, or it had become at least twice as long as what it held; at first it is `len` bytes
-- long and holds `filled` of them
abbrev pub HaveRoom : {R : Type 0} → (filled len : ℕ) → List (ReadCall R) → Type 0
HaveRoom filled len [] = ⊤
HaveRoom filled len (call ∷ more) =
    (block_len ≤ length call.room) × ((filled + length call.room ≡ len) ⊎ (filled ≤ length call.room)) × HaveRoom (filled + length (given_by call)) (filled + length call.room) more

-- a reader was called by blocks, for a buffer that grows by doubling
abbrev pub ReadsInBlocks : {R : Type 0} → ReaderCalls R → (old new : R) → Type 0
ReadsInBlocks {R = R} calls old new = (log : List (ReadCall R)) × WasRead calls old log new × HaveRoom 0 0 log

-- a write took all of some bytes that it was offered
abbrev pub took_all : {W : Type 0} → WriterCall W → Bool
took_all (Wrote piece (Ok count) after) = not (length piece == 0) && (count == length piece)
took_all call = false

-- a writer was called by blocks: of its calls at most two for each block that was taken, and one
-- more, took all that they were offered
abbrev pub WritesInBlocks : {W : Type 0} → WriterCalls W → (old new : W) → Type 0
WritesInBlocks {W = W} calls old new =
    (log : List (WriterCall W)) × WasWritten calls old log new × (block_len * count_by took_all log ≤ 2 * length (flat_map taken_by log) + block_len)
