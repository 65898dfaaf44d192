-- Texts written into a buffer of the caller.
use Rattle.std.specs.Prelude.{◌≡◌, ◌<◌, ◌≤◌, ℕ, ◌++◌, length, drop}
use Rattle.starlark_grammar.specs.Words.{Text}

-- the length of the text was returned; the buffer begins with it, or has no room and is as it was
pub record IsWritten (text before after : Text) (told : ℕ) : Type 0 where
  pub len : told ≡ length text
  pub fits : length text ≤ length before → after ≡ text ++ drop (length text) before
  pub lacks : length before < length text → after ≡ before
