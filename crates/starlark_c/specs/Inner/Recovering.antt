-- One more item of a text that is lexed on after its faults, in the caller's buffers.
use Rattle.std.specs.Prelude.{◌≡◌, ◌≤◌, ◌+◌, ℕ, List, [], ◌∷◌, length, drop, Some, Result, Err}
use Rattle.starlark_base.specs.Diagnostics.{Diagnosed}
use Rattle.starlark_c.specs.Inner.Filling.{put}
use Rattle.starlark_c.specs.RecoveredTexts.{Contents, LackRoom, added, capped_counts, counts_of, sums}
use Rattle.starlark_c.specs.declared.recovered_endings.Counts.{Counts}
use Rattle.starlark_c.specs.declared.recovered_endings.RecoveredEnding.{RecoveredEnding}
use Rattle.starlark_c.specs.declared.recovered_endings.RecoveredEnding.TheVariants as ending
use Rattle.starlark_c.specs.declared.recovering.Taken.{Taken}
use Rattle.starlark_c.specs.declared.recovering.Taken.TheVariants as taken
use Rattle.starlark_recovery.specs.RecoveringLexer.{left_after}
use Rattle.starlark_errors.specs.declared.error.kinds.ErrorKind.{ErrorKind}
use Rattle.starlark_text.specs.declared.or_memory.OrMemory.{OrMemory}
use Rattle.starlark_text.specs.declared.or_memory.OrMemory.TheVariants as refusal
use Rattle.starlark_token.specs.TextItems.{LexerItem}
use Rattle.starlark_token.specs.declared.tokens.Token.{Token}

-- a list was put at an offset of a buffer, which has room for it
pub record IsPutAt {A : Type 0} (at : ℕ) (list before after : List A) : Type 0 where
  pub fits : at ≤ length before → at + length list ≤ length before
  pub is : after ≡ put at list before

-- more was put after what fills the buffers
pub record ArePut (filled : Counts) (more before after : Contents) : Type 0 where
  pub lexemes : IsPutAt filled.lexemes more.lexemes before.lexemes after.lexemes
  pub values : IsPutAt filled.values more.values before.values after.values
  pub faults : IsPutAt filled.faults more.faults before.faults after.faults

-- the counts with one item more
abbrev pub counts_with : Counts → LexerItem → Counts
counts_with counts item = sums counts (counts_of (added counts item))

-- what became of an item
abbrev pub Takes : LexerItem → Counts → Contents → Contents → Taken → Type 0
Takes item filled before after (taken.Put more) = ArePut filled (added filled item) before after × (more ≡ counts_with filled item)
Takes item filled before after (taken.NoRoom wanted) =
    LackRoom (counts_with filled item) before × (after ≡ before) × (wanted ≡ capped_counts (counts_with filled item))
Takes item filled before after taken.Memory = after ≡ before

-- where an item was taken, the lexer has all but the first of the items that were left; else it ran out of memory
abbrev pub GoesOn : Result (ℕ × Token × ℕ) (OrMemory (Diagnosed ErrorKind)) → Taken → Type 0
GoesOn item taken.Memory = item ≡ Err refusal.Memory
GoesOn item took = (left : List LexerItem) → left_after (Some item) left ≡ drop 1 left

-- what is wanted with items more
abbrev pub wanted_on : Counts → List LexerItem → Counts
wanted_on wanted [] = wanted
wanted_on wanted (item ∷ items) = wanted_on (capped_counts (counts_with wanted item)) items

-- how lexing ends where the buffers have no room: with what is wanted for all, or as memory ran out
abbrev pub EndsFull : (all filled : Counts) → RecoveredEnding → Type 0
EndsFull all filled (ending.Full wanted) = wanted ≡ all
EndsFull all filled (ending.Memory told) = told ≡ filled
EndsFull all filled end = ⊥
