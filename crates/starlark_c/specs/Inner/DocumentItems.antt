-- One more item of a document in the caller's buffers.
use Rattle.std.specs.Prelude.{◌≡◌, ◌<◌, ◌^◌, ℕ, List, Result, Ok, Err}
use Rattle.starlark_c.specs.Inner.Recovering.{ArePut, counts_with}
use Rattle.starlark_c.specs.RecoveredTexts.{Contents, LackRoom, added, capped_counts}
use Rattle.starlark_c.specs.declared.recovered_endings.Counts.{Counts}
use Rattle.starlark_grammar.specs.Tokens.{Spanned}
use Rattle.starlark_grammar.specs.RecoveryLaws.{AreInOrder}
use Rattle.starlark_token.specs.TextItems.{LexerItem}

-- an item was put after what fills the buffers, or has no room
abbrev pub Adds : LexerItem → Counts → Contents → Contents → Result Counts Counts → Type 0
Adds item filled before after (Ok more) = ArePut filled (added filled item) before after × (more ≡ counts_with filled item)
Adds item filled before after (Err wanted) =
    LackRoom (counts_with filled item) before × (after ≡ before) × (wanted ≡ capped_counts (counts_with filled item))

-- spans in order, which end before byte 2^32
abbrev pub AreWithin : {A : Type 0} → List (Spanned A) → Type 0
AreWithin spans = (start : ℕ) × (end : ℕ) × (end < 2 ^ 32) × AreInOrder start spans end
