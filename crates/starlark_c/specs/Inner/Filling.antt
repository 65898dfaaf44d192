-- One more lexeme or fault in the caller's buffers.
use Rattle.std.specs.Prelude.{◌≡◌, ◌<◌, ◌≤◌, ◌+◌, ◌-◌, ◌⊎◌, ℕ, Bool, true, false, List, [], ◌∷◌, ◌++◌, length, take, drop, Option, Some, None, Result, Ok, Err, ⊤}
use Rattle.starlark_c.specs.Endings.{AreFirst, Buffers, Ends, capped, lexemes_of}
use Rattle.starlark_c.specs.LastCuts.{IsCutIn, IsFirstPiece, IsLastCut, WantsFirstPiece}
use Rattle.starlark_c.specs.Records.{fault_bytes, fault_record, record_of, stored_bytes, value_bytes, values}
use Rattle.starlark_c.specs.TextParts.{part_in, record_with, stored}
use Rattle.starlark_c.specs.declared.endings.Ending.{Ending}
use Rattle.starlark_c.specs.declared.endings.Ending.TheVariants as ending
use Rattle.starlark_c.specs.declared.endings.Filled.{Filled}
use Rattle.starlark_c.specs.declared.fill_state.FillState.{FillState}
use Rattle.starlark_c.specs.declared.fill_state.CutPoint.{CutPoint}
use Rattle.starlark_grammar.specs.Tokens as grammar
use Rattle.starlark_grammar.specs.Words.{Text}
use Rattle.starlark_token.specs.TokenViews.{TokenView, Whole}

-- a list with some items in place of those from `at` on
abbrev pub put : {A : Type 0} → ℕ → List A → List A → List A
put at items list = take at list ++ (items ++ drop (at + length items) list)

-- a lexeme was put after what fills the buffers
pub record IsPut (part : Option ℕ) (lexeme : grammar.Spanned TokenView) (filled : Filled) (before after : Buffers) (more : Filled) : Type 0 where
  pub lexemes_fit : filled.lexemes < length before.lexemes
  pub values_fit : filled.values + length (stored part (value_bytes lexeme.node)) ≤ length before.values
  pub lexemes : after.lexemes ≡ put filled.lexemes (record_with part (record_of filled.values lexeme) ∷ []) before.lexemes
  pub values : after.values ≡ put filled.values (stored part (value_bytes lexeme.node)) before.values
  pub adds : more ≡ record { lexemes = filled.lexemes + 1; values = filled.values + length (stored part (value_bytes lexeme.node)) }

-- there was no room for a lexeme, and nothing changed
pub record HasNoRoom (part : Option ℕ) (lexeme : grammar.Spanned TokenView) (filled : Filled) (before after : Buffers) : Type 0 where
  pub lacks : (length before.lexemes < filled.lexemes + 1) ⊎ (length before.values < filled.values + length (stored part (value_bytes lexeme.node)))
  pub lexemes : after.lexemes ≡ before.lexemes
  pub values : after.values ≡ before.values

-- the result of putting a lexeme
abbrev pub Puts : Option ℕ → grammar.Spanned TokenView → Filled → Buffers → Buffers → Option Filled → Type 0
Puts part lexeme filled before after None = HasNoRoom part lexeme filled before after
Puts part lexeme filled before after (Some more) = IsPut part lexeme filled before after more

-- how much lexemes with these values want
abbrev pub wanted_by : (lexemes bytes : ℕ) → Filled
wanted_by lexemes bytes = record { lexemes = capped lexemes; values = capped bytes }

-- how lexing ends after the text that a fault names was put after the values, or had no room
abbrev pub EndsByFault : grammar.Spanned grammar.Fault → Filled → Text → Text → Ending → Type 0
EndsByFault fault filled before after (ending.Fault more told) =
    (filled.values + length (fault_bytes fault.node) ≤ length before)
    × (after ≡ put filled.values (fault_bytes fault.node) before)
    × (more ≡ record { lexemes = filled.lexemes; values = filled.values + length (fault_bytes fault.node) })
    × (told ≡ fault_record filled.values fault)
EndsByFault fault filled before after (ending.Full wanted) =
    (length before < filled.values + length (fault_bytes fault.node)) × (after ≡ before)
    × (wanted ≡ wanted_by filled.lexemes (filled.values + length (fault_bytes fault.node)))
EndsByFault fault filled before after end = ⊥

-- what fills the buffers after some lexemes
abbrev pub filled_by : Option Text → List (grammar.Spanned TokenView) → Filled
filled_by home xs = record { lexemes = length xs; values = length (values home xs) }

-- a `Newline` or a comment: only after one may a text be cut
abbrev pub ends_line : TokenView → Bool
ends_line (Whole grammar.Newline) = true
ends_line (Whole (grammar.Comment text)) = true
ends_line view = false

-- the text may be cut at a stop, after some of the lexemes yielded so far
pub record IsCutPointIn (home : Option Text) (text : Text) (yielded : ℕ) (stop : CutPoint) : Type 0 where
  pub some : 0 < stop.filled.lexemes
  pub few : stop.filled.lexemes ≤ yielded
  pub cut : IsCutIn text stop.is_front stop.filled.lexemes stop.at
  pub values : stop.filled.values ≡ length (values home (take stop.filled.lexemes (lexemes_of text)))

-- there is no stop yet, or the text may be cut at it
abbrev pub IsCutPoint : Option Text → Text → (yielded : ℕ) → CutPoint → Type 0
IsCutPoint home text yielded stop = (stop.filled.lexemes ≡ 0) ⊎ IsCutPointIn home text yielded stop

-- no cut is after more lexemes than a stop, and after `yielded` of them at most
abbrev pub IsLastStop : Text → (yielded : ℕ) → CutPoint → Type 0
IsLastStop text yielded stop = (more at : ℕ) → stop.filled.lexemes < more → more ≤ yielded → IsCutIn text stop.is_front more at → ⊥

-- the lexemes yielded so far fill the buffers, and there may be a stop after them
pub record MayStop (home : Option Text) (text : Text) (yielded : ℕ) (progress : FillState) : Type 0 where
  pub some : 0 < yielded
  pub last : IsLastStop text (yielded - 1) progress.stop
  pub few : yielded ≤ length (lexemes_of text)
  pub filled : progress.filled ≡ filled_by home (take yielded (lexemes_of text))
  pub stop : IsCutPoint home text yielded progress.stop

-- what is wanted with one more lexeme, of which these bytes are put among the values
abbrev pub wanted_with : Filled → Text → Filled
wanted_with filled bytes = wanted_by (filled.lexemes + 1) (filled.values + length bytes)

-- the result of putting the next lexeme: lexing went on, or nothing changed, and this is wanted with it
abbrev pub PutsNext : Option Text → grammar.Spanned TokenView → (old new : FillState) → Buffers → Buffers → Result ⊤ Filled → Type 0
PutsNext home lexeme old new before after (Ok done) =
    IsPut (part_in home lexeme) lexeme old.filled before after new.filled × (new.stop ≡ old.stop)
PutsNext home lexeme old new before after (Err wanted) =
    HasNoRoom (part_in home lexeme) lexeme old.filled before after × (new ≡ old) × (wanted ≡ wanted_with old.filled (stored_bytes home lexeme))

-- how much is wanted for the first piece of a text, which has the first `count` lexemes and maybe more
pub record IsWanted (home : Option Text) (text : Text) (is_front : Bool) (count : ℕ) (wanted : Filled) : Type 0 where
  pub all_lexemes : ℕ
  pub all_bytes : ℕ
  pub first : AreFirst home text all_lexemes all_bytes
  pub piece : IsFirstPiece home is_front text all_lexemes all_bytes
  pub more_lexemes : count ≤ all_lexemes
  pub more_bytes : length (values home (take count (lexemes_of text))) ≤ all_bytes
  pub needs : wanted ≡ wanted_by all_lexemes all_bytes

-- how lexing ends at a stop, as there is no room for more: with the piece before it, or as memory ran out
abbrev pub IsStopped : Text → FillState → Ending → Type 0
IsStopped text progress (ending.Piece filled next) =
    (next ≡ progress.stop.at) × (filled ≡ progress.stop.filled) × (0 < progress.stop.filled.lexemes)
IsStopped text progress (ending.Memory told) = told ≡ progress.filled
IsStopped text progress end = ⊥

-- how lexing ends where the last of `count` lexemes has no room: at the stop, or with what is wanted
abbrev pub IsOverflow : Option Text → Text → (count : ℕ) → FillState → Ending → Type 0
IsOverflow home text count progress (ending.Full wanted) = IsWanted home text progress.stop.is_front count wanted × (progress.stop.filled.lexemes ≡ 0)
IsOverflow home text count progress end = IsStopped text progress end

-- how lexing ends at a fault: with it, or where the text that it names has no room at the stop, or with what is wanted
abbrev pub EndsAtFault : Text → grammar.Spanned grammar.Fault → FillState → Text → Text → Ending → Type 0
EndsAtFault text fault progress before after (ending.Fault more told) = EndsByFault fault progress.filled before after (ending.Fault more told)
EndsAtFault text fault progress before after (ending.Full wanted) = EndsByFault fault progress.filled before after (ending.Full wanted) × (progress.stop.filled.lexemes ≡ 0)
EndsAtFault text fault progress before after end = IsStopped text progress end × (after ≡ before)

-- whether the buffers have lexemes up to the last stop or further
abbrev pub has_stop : Ending → Bool
has_stop (ending.Whole filled) = true
has_stop (ending.Fault filled fault) = true
has_stop (ending.Piece filled next) = true
has_stop end = false

-- a piece has all lexemes before a stop
abbrev pub IsFilledTo : CutPoint → Ending → Type 0
IsFilledTo stop (ending.Piece filled next) = (filled ≡ stop.filled) × (0 < stop.filled.lexemes)
IsFilledTo stop end = ⊤

-- the buffers have no room up to any cut after the stop; full ones have no stop, and want the first piece
abbrev pub IsStopAtLastCut : Option Text → (is_front : Bool) → Text → Buffers → CutPoint → Ending → Type 0
IsStopAtLastCut home is_front text before stop (ending.Memory filled) = ⊤
IsStopAtLastCut home is_front text before stop (ending.NotUtf8 valid) = ⊤
IsStopAtLastCut home is_front text before stop ending.TooLong = ⊤
IsStopAtLastCut home is_front text before stop (ending.Full wanted) = (stop.filled.lexemes ≡ 0) × IsLastCut home is_front text before 0 × WantsFirstPiece home is_front text wanted
IsStopAtLastCut home is_front text before stop end = IsLastCut home is_front text before stop.filled.lexemes

-- how lexing some bytes into buffers ends, and the last stop in them
abbrev pub EndsWithCutPoint : Option Text → Text → (is_front : Bool) → Buffers → Buffers → Ending × CutPoint → Type 0
EndsWithCutPoint home text is_front before after found =
    Ends home text before after found.0 × (yielded : ℕ) × (yielded ≤ length (lexemes_of text)) × IsCutPoint home text yielded found.1
    × (found.1.is_front ≡ is_front) × IsFilledTo found.1 found.0 × IsStopAtLastCut home is_front text before found.1 found.0
