-- Comment-only lines of a margin whose comments are pending.
use Rattle.std.specs.Prelude.{◌≡◌, true, ℕ, ◌+◌, ◌==◌, List, ◌∷◌, length, Option, Some, None, ⊤}
use Rattle.starlark_grammar.specs.Words.{Text}
use Rattle.starlark_reader.specs.Inner.Pending.{lines_between}
use Rattle.starlark_reader.specs.declared.pending.Pending.{Pending}
use Rattle.starlark_token.specs.declared.tokens.Token.{Token}

-- the comments of the `len` bytes from byte `begin` on are pending, and `is_flat` says whether no
-- indent is open before them
pub record IsOfMargin (begin len : ℕ) (levels : List ℕ) (pending : Pending) : Type 0 where
  pub from : pending.from ≡ begin
  pub to : pending.to ≡ begin + len
  pub flat : pending.is_flat ≡ (length levels == 0)

-- the first of the lines was taken
pub record IsPassedLine (text : Text) (old new : Pending) : Type 0 where
  pub line : Text
  pub first : lines_between text old.from old.to ≡ line ∷ lines_between text new.from new.to
  pub from : new.from ≡ old.from + length line
  pub to : new.to ≡ old.to
  pub flat : old.is_flat ≡ true

-- if a lexeme was taken, and `is_flat` is still set, it was the comment of a line
abbrev pub IsLinePassed : Text → Pending → Pending → Option (ℕ × Token × ℕ) → Type 0
IsLinePassed text old new None = ⊤
IsLinePassed text old new (Some found) = new.is_flat ≡ true → IsPassedLine text old new
