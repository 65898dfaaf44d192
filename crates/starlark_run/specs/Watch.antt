-- A watched reader or writer, and what its calls say.
use Rattle.std.specs.Prelude.{ℕ, Bool, true, false, ◌&&◌, not, ◌==◌, List, length, Result, Ok, Err}

-- the reader or writer, whether a call of it failed, and whether it ended
pub record Watch (D : Type 0) : Type 0 where
  pub device : D
  pub failed : Bool
  pub ended : Bool

-- no byte was given or taken, though there was room for one, or one to take
abbrev pub is_nothing : ℕ → List ℕ → Bool
is_nothing count bytes = count == 0 && not (length bytes == 0)

-- a read that found the end
abbrev pub reads_end : {E : Type 0} → Result ℕ E → List ℕ → Bool
reads_end (Ok count) room = is_nothing count room
reads_end (Err e) room = false

-- a write that failed: an error, or a piece of which nothing was taken
abbrev pub fails_to_write : {E : Type 0} → Result ℕ E → List ℕ → Bool
fails_to_write (Ok count) piece = is_nothing count piece
fails_to_write (Err e) piece = true
