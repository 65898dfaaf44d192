-- Reads of blocks, one after another.
use Rattle.std.proofs.Common.{◌≡◌, ◌≤◌, ◌+◌, ◌⊎◌, ℕ, List, [], ◌∷◌, Result, Ok, length, length-take, take, refl, subst, ◌∙◌, inl, inr, arith}
use Rattle.std.specs.declared.io.Error.{Error}
use Rattle.starlark_devices.specs.Calls.{Bytes, ReadCall, ReaderCalls, WasRead, given_by}
use Rattle.starlark_run.specs.Blocks.{HaveRoom, ReadsInBlocks, block_len}

module _ {R : Type 0} (calls : ReaderCalls R) where
  -- the reads so far: a buffer of `len` bytes holds `filled` of them, and what is read on goes on
  abbrev pub ReadsSoFar : (old now : R) (filled len : ℕ) → Type 0
  ReadsSoFar old now filled len = (new : R) (log : List (ReadCall R)) → WasRead calls now log new → HaveRoom filled len log → ReadsInBlocks calls old new

  pub reads_start : (a : R) (len : ℕ) → len ≡ 0 → ReadsSoFar a a 0 len
  reads_start a len none = λ new log order room. (log, order, subst (λ n. HaveRoom 0 n log) none room)

  abbrev pub call_of : Bytes → Result ℕ Error → R → ReadCall R
  call_of room result after = record { room = room; result = result; after = after }

  pub reads_more : (a b c : R) (filled len : ℕ) (room : Bytes) (result : Result ℕ Error) → ReadsSoFar a b filled len → calls.read b room result c → block_len ≤ length room → (filled + length room ≡ len) ⊎ (filled ≤ length room)
      → ReadsSoFar a c (filled + length (given_by (call_of room result c))) (filled + length room)
  reads_more a b c filled len room result before read large grown = λ new log order rest. before new (call_of room result c ∷ log) (read, order) (large, grown, rest)

  -- a read that gave `count` bytes
  pub reads_on : (a b c : R) (filled len count after : ℕ) (room : Bytes) → ReadsSoFar a b filled len → calls.read b room (Ok count) c → block_len ≤ length room → (filled + length room ≡ len) ⊎ (filled ≤ length room) → filled + length room ≡ after → count ≤ length room
      → ReadsSoFar a c (filled + count) after
  reads_on a b c filled len count after room before read large grown whole inside =
      let given : length (take count room) ≡ count = omega (arith, length-take count room, inside) in
      let more = reads_more a b c filled len room (Ok count) before read large grown in
      λ new log order rest. more new log order (rw (given, whole) rest)

  pub reads_end : (a b : R) (filled len : ℕ) → ReadsSoFar a b filled len → ReadsInBlocks calls a b
  reads_end a b filled len before = before b [] refl tt

-- the buffer is as long as before, or twice as long as what it holds, and so is its rest
pub rest_grown : (filled room len after : ℕ) → filled + room ≡ after → (after ≡ len) ⊎ (filled + filled ≤ after) → (filled + room ≡ len) ⊎ (filled ≤ room)
rest_grown filled room len after whole (inl same) = inl (whole ∙ same)
rest_grown filled room len after whole (inr twice) = inr (omega (arith, whole, twice))
