-- A text that is lexed on after its faults: what the caller's buffers hold then, and how that ends.
use Rattle.std.specs.Prelude.{◌≡◌, ◌<◌, ◌≤◌, ◌+◌, ◌^◌, ◌⊎◌, ℕ, List, [], ◌∷◌, ◌++◌, length, take, drop}
use Rattle.std.specs.Str.{IsUtf8, IsValidUpTo}
use Rattle.starlark_c.specs.Endings.{IsText, capped}
use Rattle.starlark_c.specs.Records.{fault_bytes, fault_number, record_of, value_bytes}
use Rattle.starlark_c.specs.declared.records.LexemeRecord.{LexemeRecord}
use Rattle.starlark_c.specs.declared.recovered_endings.Counts.{Counts}
use Rattle.starlark_c.specs.declared.recovered_endings.RecoveredEnding.{RecoveredEnding}
use Rattle.starlark_c.specs.declared.recovered_endings.RecoveredEnding.TheVariants as ending
use Rattle.starlark_c.specs.declared.recovered_outcomes.FoundFault.{FoundFault}
use Rattle.starlark_grammar.specs.Tokens as grammar
use Rattle.starlark_grammar.specs.Words.{Text}
use Rattle.starlark_recovery.specs.RecoveringLexer.{all_items}
use Rattle.starlark_token.specs.TextItems.{LexerItem, Given, Refused}

-- what is in the three buffers: records of lexemes, the bytes of values, and records of faults
pub record Contents : Type 0 where
  pub lexemes : List LexemeRecord
  pub values : Text
  pub faults : List FoundFault

-- how many records and bytes that is
abbrev pub counts_of : Contents → Counts
counts_of contents = record { lexemes = length contents.lexemes; values = length contents.values; faults = length contents.faults }

-- both, one after the other in each buffer
abbrev pub joined : Contents → Contents → Contents
joined front back = record {
  lexemes = front.lexemes ++ back.lexemes;
  values = front.values ++ back.values;
  faults = front.faults ++ back.faults;
}

-- both counts together
abbrev pub sums : Counts → Counts → Counts
sums some more = record { lexemes = some.lexemes + more.lexemes; values = some.values + more.values; faults = some.faults + more.faults }

-- the record of a fault, after so many lexemes and bytes of values
abbrev pub found_fault : Counts → grammar.Spanned grammar.Fault → FoundFault
found_fault before fault = record {
  kind = fault_number fault.node;
  begin = fault.begin;
  end = fault.end;
  reserved = 0;
  lexemes_before = before.lexemes;
  value_begin = before.values;
  value_len = length (fault_bytes fault.node);
}

-- what an item adds after that: its record, and the value of a lexeme or the text that a fault names
abbrev pub added : Counts → LexerItem → Contents
added before (Given lexeme) = record { lexemes = record_of before.values lexeme ∷ []; values = value_bytes lexeme.node; faults = [] }
added before (Refused fault) = record { lexemes = []; values = fault_bytes fault.node; faults = found_fault before fault ∷ [] }

-- what items add, one after another
unfoldable pub all_added : Counts → List LexerItem → Contents
all_added before [] = record { lexemes = []; values = []; faults = [] }
all_added before (item ∷ items) = joined (added before item) (all_added (sums before (counts_of (added before item))) items)

-- what belongs to items
abbrev pub contents : List LexerItem → Contents
contents items = all_added (record { lexemes = 0; values = 0; faults = 0 }) items

-- a buffer begins with a list, and is as it was after it
pub record Begins {A : Type 0} (list before after : List A) : Type 0 where
  pub fits : length list ≤ length before
  pub is : after ≡ list ++ drop (length list) before

-- the buffers begin with these contents, are as they were after them, and the counts are those of them
pub record AreFilled (with before after : Contents) (filled : Counts) : Type 0 where
  pub lexemes : Begins with.lexemes before.lexemes after.lexemes
  pub values : Begins with.values before.values after.values
  pub faults : Begins with.faults before.faults after.faults
  pub counts : filled ≡ counts_of with

-- one of the buffers has no room for so much
abbrev pub LackRoom : Counts → Contents → Type 0
LackRoom wanted buffers = (length buffers.lexemes < wanted.lexemes) ⊎ (length buffers.values < wanted.values) ⊎ (length buffers.faults < wanted.faults)

-- each count, or the greatest number of 64 bits where it would be greater
abbrev pub capped_counts : Counts → Counts
capped_counts counts = record { lexemes = capped counts.lexemes; values = capped counts.values; faults = capped counts.faults }

-- the buffers have no room for what belongs to these items, which need this much
pub record LackItems (items : List LexerItem) (before : Contents) (wanted : Counts) : Type 0 where
  pub lack : LackRoom (counts_of (contents items)) before
  pub needs : wanted ≡ capped_counts (counts_of (contents items))

-- the buffers have the items before the first that has no room, and are as they were after these
pub record HoldFitting (items : List LexerItem) (before after : Contents) : Type 0 where
  pub count : ℕ
  pub filled : Counts
  pub have : AreFilled (contents (take count items)) before after filled
  pub next : LackRoom (counts_of (contents (take (count + 1) items))) before

-- the buffers have the first of these items, or all
pub record HaveFirst (items : List LexerItem) (before after : Contents) (filled : Counts) : Type 0 where
  pub count : ℕ
  pub few : count ≤ length items
  pub have : AreFilled (contents (take count items)) before after filled

-- how lexing some bytes into buffers, on after all faults, ends
abbrev pub Recovers : Text → Contents → Contents → RecoveredEnding → Type 0
Recovers text before after (ending.Whole filled) = IsText text × AreFilled (contents (all_items text)) before after filled
Recovers text before after (ending.Full wanted) = IsText text × LackItems (all_items text) before wanted × HoldFitting (all_items text) before after
Recovers text before after (ending.Memory filled) = IsText text × HaveFirst (all_items text) before after filled
Recovers text before after (ending.NotUtf8 valid) = (length text < 2 ^ 32) × (¬ IsUtf8 text) × IsValidUpTo text valid × (after ≡ before)
Recovers text before after ending.TooLong = (2 ^ 32 ≤ length text) × (after ≡ before)
