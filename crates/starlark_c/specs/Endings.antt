-- How lexing a text into the caller's buffers ends, and what the buffers hold then.
use Rattle.std.specs.Prelude.{◌≡◌, ◌<◌, ◌≤◌, ◌^◌, ◌-◌, ◌⊎◌, ℕ, true, min, List, [], ◌++◌, map, length, take, drop, Option, Some, None}
use Rattle.std.specs.Str.{IsUtf8, IsValidUpTo}
use Rattle.starlark_c.specs.Records.{fault_bytes, fault_record, records, values}
use Rattle.starlark_c.specs.declared.endings.Ending.{Ending}
use Rattle.starlark_c.specs.declared.endings.Ending.TheVariants as ending
use Rattle.starlark_c.specs.declared.endings.Filled.{Filled}
use Rattle.starlark_c.specs.declared.records.FaultRecord.{FaultRecord}
use Rattle.starlark_c.specs.declared.records.LexemeRecord.{LexemeRecord}
use Rattle.starlark_grammar.specs.Cuts.{is_clean_cut, without_closing}
use Rattle.starlark_grammar.specs.Reading.{outcome}
use Rattle.starlark_grammar.specs.TextLaws.{Join}
use Rattle.starlark_grammar.specs.Tokens as grammar
use Rattle.starlark_grammar.specs.Words.{Text}
use Rattle.starlark_token.specs.Lexemes.{shown_lexeme}
use Rattle.starlark_token.specs.TokenViews.{TokenView}

-- the caller's buffers: records of lexemes, and the bytes of values
pub record Buffers : Type 0 where
  pub lexemes : List LexemeRecord
  pub values : Text

-- the buffers begin with these records and values, and are as they were after them
pub record Hold (list : List LexemeRecord) (bytes : Text) (before after : Buffers) : Type 0 where
  pub lexemes_fit : length list ≤ length before.lexemes
  pub values_fit : length bytes ≤ length before.values
  pub lexemes : after.lexemes ≡ list ++ drop (length list) before.lexemes
  pub values : after.values ≡ bytes ++ drop (length bytes) before.values

-- the lexemes of a text, or those before its fault
abbrev pub lexemes_of : Text → List (grammar.Spanned TokenView)
lexemes_of text = map shown_lexeme (outcome text).lexemes

-- the text that a fault names, if there is a fault
abbrev pub named : Option (grammar.Spanned grammar.Fault) → Text
named None = []
named (Some fault) = fault_bytes fault.node

-- the values of a text's lexemes, and then the text that its fault names
abbrev pub all_values : Option Text → Text → Text
all_values home text = values home (lexemes_of text) ++ named (outcome text).fault

-- the text is UTF-8, and 32 bits can count its bytes
pub record IsText (text : Text) : Type 0 where
  pub utf8 : IsUtf8 text
  pub fits : length text < 2 ^ 32

-- the text has no fault, and the buffers have all its lexemes
pub record IsWhole (home : Option Text) (text : Text) (before after : Buffers) (filled : Filled) : Type 0 where
  pub faultless : (outcome text).fault ≡ None
  pub hold : Hold (records home (lexemes_of text)) (values home (lexemes_of text)) before after
  pub counts : filled ≡ record { lexemes = length (lexemes_of text); values = length (values home (lexemes_of text)) }

-- the text has the fault, and the buffers have all lexemes before it and the text that it names
pub record IsFaulty (home : Option Text) (text : Text) (before after : Buffers) (filled : Filled) (told : FaultRecord) : Type 0 where
  pub fault : grammar.Spanned grammar.Fault
  pub is : (outcome text).fault ≡ Some fault
  pub hold : Hold (records home (lexemes_of text)) (all_values home text) before after
  pub tells : told ≡ fault_record (length (values home (lexemes_of text))) fault
  pub counts : filled ≡ record { lexemes = length (lexemes_of text); values = length (all_values home text) }

-- the text can be cut after `at` bytes: it is a clean cut up to there, its first `count` lexemes are those of that part
-- without the closing `Newline`, and all its lexemes are the joined list of both parts
pub record IsPiece (text : Text) (at count : ℕ) : Type 0 where
  pub some : 0 < at
  pub inside : at ≤ length text
  pub clean : is_clean_cut (take at text) ≡ true
  pub lexemes : take count (lexemes_of text) ≡ map shown_lexeme (without_closing (outcome (take at text)).lexemes)
  pub joins : Join (take at text) (drop at text)

-- the buffers begin with the lexemes of the text up to a cut after `next` bytes
pub record IsCut (home : Option Text) (text : Text) (after : Buffers) (filled : Filled) (next : ℕ) : Type 0 where
  pub count : ℕ
  pub few : count ≤ length (lexemes_of text)
  pub piece : IsPiece text next count
  pub all_lexemes : take count after.lexemes ≡ records home (take count (lexemes_of text))
  pub all_values : take (length (values home (take count (lexemes_of text)))) after.values ≡ values home (take count (lexemes_of text))
  pub counts : filled ≡ record { lexemes = count; values = length (values home (take count (lexemes_of text))) }

-- so many lexemes and bytes of values are the first of the text, or all with the text that its fault names
abbrev pub AreFirst : Option Text → Text → (lexemes bytes : ℕ) → Type 0
AreFirst home text lexemes bytes =
    ((lexemes ≤ length (lexemes_of text)) × (bytes ≡ length (values home (take lexemes (lexemes_of text)))))
    ⊎ ((lexemes ≡ length (lexemes_of text)) × (bytes ≡ length (all_values home text)))

-- the greatest number of 64 bits where it would be greater
abbrev pub capped : ℕ → ℕ
capped n = min n (2 ^ 64 - 1)

-- the buffers have no room for the first lexemes of the text, which need this much; they have some of them, and are as they
-- were after these
pub record IsFull (home : Option Text) (text : Text) (before after : Buffers) (wanted : Filled) : Type 0 where
  pub lexemes : ℕ
  pub bytes : ℕ
  pub first : AreFirst home text lexemes bytes
  pub lacks : (length before.lexemes < lexemes) ⊎ (length before.values < bytes)
  pub needs : wanted ≡ record { lexemes = capped lexemes; values = capped bytes }
  pub count : ℕ
  pub few : count ≤ length (lexemes_of text)
  pub hold : Hold (records home (take count (lexemes_of text))) (values home (take count (lexemes_of text))) before after

-- the buffers have the first lexemes of the text, or all
pub record IsBegun (home : Option Text) (text : Text) (before after : Buffers) (filled : Filled) : Type 0 where
  pub count : ℕ
  pub few : count ≤ length (lexemes_of text)
  pub hold : Hold (records home (take count (lexemes_of text))) (values home (take count (lexemes_of text))) before after
  pub counts : filled ≡ record { lexemes = count; values = length (values home (take count (lexemes_of text))) }

-- how lexing some bytes into buffers ends
abbrev pub Ends : Option Text → Text → Buffers → Buffers → Ending → Type 0
Ends home text before after (ending.Whole filled) = IsText text × IsWhole home text before after filled
Ends home text before after (ending.Fault filled fault) = IsText text × IsFaulty home text before after filled fault
Ends home text before after (ending.Piece filled next) = IsText text × IsCut home text after filled next
Ends home text before after (ending.Full wanted) = IsText text × IsFull home text before after wanted
Ends home text before after (ending.Memory filled) = IsText text × IsBegun home text before after filled
Ends home text before after (ending.NotUtf8 valid) = (length text < 2 ^ 32) × (¬ IsUtf8 text) × IsValidUpTo text valid × (after ≡ before)
Ends home text before after ending.TooLong = (2 ^ 32 ≤ length text) × (after ≡ before)

-- How lexing the front of a longer text ends: where it ends at a cut, the buffers have the lexemes of the longer text up to
-- there, whatever follows the front. Else all is as for a text.
abbrev pub EndsFront : Option Text → Text → Buffers → Buffers → Ending → Type 0
EndsFront home front before after (ending.Piece filled next) = IsText front × ((rest : Text) → IsCut home (front ++ rest) after filled next)
EndsFront home front before after end = Ends home front before after end
