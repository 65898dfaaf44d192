-- The state of a lexer that goes on after faults, and what is left to it.
use Rattle.std.specs.Prelude.{◌≡◌, ◌≤◌, ◌<◌, ◌^◌, ◌+◌, ◌*◌, ◌==◌, ◌&&◌, ◌||◌, ◌⊎◌, ℕ, zero, suc, Bool, true, false, List, [], ◌∷◌, ◌++◌, map, length, option_to_list, drop, take, if◌then◌else◌, Option, None, Some, IfSome, Result, ⊤}
use Rattle.std.specs.Option.{option_map}
use Rattle.std.specs.Str.{IsCharBoundary, IsUtf8}
use Rattle.starlark_base.specs.Diagnostics.{Diagnosed}
use Rattle.starlark_grammar.specs.Found as items
use Rattle.starlark_grammar.specs.Found.{Given, Item, Refused, found_after, moved_item}
use Rattle.starlark_grammar.specs.KeptLines.{closes_literal, ends_by_comment, is_open_quote, keeps_line, with_literal_at}
use Rattle.starlark_grammar.specs.Depths.{mode_after}
use Rattle.starlark_grammar.specs.Margins.{begins_with_line_end, open_widths}
use Rattle.starlark_grammar.specs.Pieces.{Other}
use Rattle.starlark_grammar.specs.StandIns.{stand_ins_at}
use Rattle.starlark_grammar.specs.Tokens as grammar
use Rattle.starlark_grammar.specs.Tokens.{Fault, Spanned, moved}
use Rattle.starlark_grammar.specs.Words.{Text}
use Rattle.starlark_errors.specs.Exceptions.{IsException}
use Rattle.starlark_lexemes.specs.Inner.LexerStates.{AreReadsTo, Course, HasFound, IsAtFault, IsLexingIn, course_of}
use Rattle.starlark_lexemes.specs.Inner.RawItems.{OffsetsHold}
use Rattle.starlark_lexemes.specs.Lexer.{LexerItem, is_ended_by, yielded_by}
use Rattle.starlark_reader.specs.Inner.Reader.{From, Line, Origin, begin_of, history_before, history_since}
use Rattle.starlark_recovery.specs.RecoveringLexer.{AreReadsOn, RecoveringView, most_reads_on, shown_item}
use Rattle.starlark_errors.specs.declared.error.kinds.ErrorKind.{ErrorKind}
use Rattle.starlark_recovery.specs.declared.recovery_state.RecoveryState.{RecoveryState}
use Rattle.starlark_text.specs.declared.or_memory.OrMemory.{OrMemory}
use Rattle.starlark_text.specs.declared.or_memory.OrMemory.TheVariants.{Error, Memory}
use Rattle.starlark_token.specs.Lexemes.{IsWithin, lexeme_view, shown_lexeme}
use Rattle.starlark_token.specs.TokenViews.{TokenView, Whole}
use Rattle.starlark_token.specs.declared.lexeme_error.LexemeError.{LexemeError}
use Rattle.starlark_token.specs.declared.tokens.Token.{Token}
use Rattle.starlark_words.specs.Inner.Reads.{more_reads}

-- the items of a text from where its reading began on
abbrev pub items_since : Origin → Text → List Item
items_since origin text = map (moved_item (begin_of origin)) (found_after (history_before origin) (drop (begin_of origin) text))

-- the items after so many faults
abbrev pub after_faults : ℕ → List Item → List Item
after_faults zero items = items
after_faults (suc n) [] = []
after_faults (suc n) (Given lexeme ∷ items) = after_faults (suc n) items
after_faults (suc n) (Refused fault ∷ items) = after_faults n items

-- the part of the text that is lexed now
abbrev pub part_of : RecoveryState → Text
part_of state = drop state.begin state.text.now

-- the items that are left: those after the faults that were told, but for the lexemes that were yielded since
abbrev pub left_of : RecoveryState → List LexerItem
left_of state = if state.state.has_ended then [] else map shown_item (drop (state.stand_in_count + state.state.yielded_count) (after_faults state.fault_count (items.found state.text.now)))

-- the lexer as its users see it
abbrev pub view_of : RecoveryState → RecoveringView
view_of state = record {
  text = state.text.now;
  code_map = state.code_map;
  left = left_of state;
  fault_count = state.fault_count;
  has_ended = state.state.has_ended;
  reads = more_reads state.earlier_reads state.state.reader.reads;
}

-- Whether the last of some lexemes is a comment that ends at an offset. What is recorded of the last comment is the number
-- of lexemes up to it, and where it ends.
abbrev pub is_end : Option (ℕ × ℕ) → ℕ → ℕ → Bool
is_end None lexemes at = false
is_end (Some comment) lexemes at = comment.0 == lexemes && comment.1 == at

abbrev pub is_comment : TokenView → Bool
is_comment (Whole (grammar.Comment text)) = true
is_comment view = false

-- what is recorded of the last comment after the token that is the last of some lexemes
abbrev pub last_comment : TokenView → ℕ → ℕ → Option (ℕ × ℕ) → Option (ℕ × ℕ)
last_comment view lexemes end before = if is_comment view then Some (lexemes, end) else before

-- Before byte `to` of the part from byte `begin` on some faults were yielded, each of which has a byte of its own; and these
-- reads of bytes found the part, and looked at each fault that keeps its line.
pub record HasReadBefore (begin to fault_count reads : ℕ) : Type 0 where
  pub few : fault_count ≤ begin + to
  pub first : fault_count ≡ 0 → begin ≡ 0
  pub least : fault_count ≤ reads
  pub most : reads ≤ most_reads_on begin fault_count

-- lexing began again after a fault that keeps its line, or at the line end after an open quote
abbrev pub IsBegun : Origin → Text → Type 0
IsBegun (Line widths) part = ⊤
IsBegun (From history at) part = ((0 < at) ⊎ ((at ≡ 0) × (begins_with_line_end part ≡ true))) × (history.before ≡ Other)

-- What is left of a part that begins at a byte: it is in the part, each byte before it opened one width at most, and a fault of
-- it is in a part that has more bytes.
pub record IsRest (begin : ℕ) (part : Text) (origin : Origin) : Type 0 where
  pub begun : IsBegun origin part
  pub inside : begin_of origin ≤ length part
  pub widths : length (open_widths (history_before origin).widths) ≤ begin + begin_of origin
  pub fault : IfSome (course_of origin part).fault (λ fault. begin_of origin < length part)

-- whether a fault of it keeps its line
abbrev pub rest_keeps : Origin → Text → Spanned Fault → Bool
rest_keeps origin part fault = keeps_line (history_before origin).before part (course_of origin part).lexemes fault

-- The fault at which the reader stopped in the part, with all of its literal if it is a bad escape, …
abbrev pub with_literal_here : RecoveryState → Spanned Fault → Spanned Fault
with_literal_here state fault = with_literal_at state.state.reader.at (part_of state) fault

-- … whether it is passed with all that is open, …
abbrev pub stays_open_here : RecoveryState → Origin → Spanned Fault → Bool
stays_open_here state origin fault = rest_keeps origin (part_of state) fault || closes_literal state.state.reader.at (part_of state) fault

-- … and whether it is an open quote.
abbrev pub is_open_here : RecoveryState → Origin → Spanned Fault → Bool
is_open_here state origin fault = is_open_quote (mode_after (history_since origin (part_of state)).tokens) (part_of state) fault

-- the text is short, and the part, which the reader has, begins between characters
pub record IsPart (state : RecoveryState) : Type 0 where
  pub fits : length state.text.now < 2 ^ 32
  pub utf8 : IsUtf8 state.text.now
  pub boundary : IsCharBoundary state.text.now state.begin
  pub own : state.state.reader.text.now ≡ part_of state

-- After a fault lexing may go on at byte `end` of the part, which so many reads found.
abbrev pub IsPaidTo : RecoveryState → Spanned Fault → (end looked : ℕ) → Type 0
IsPaidTo state fault end looked = (end ≤ fault.begin + looked) × (state.state.reader.reads + looked + 1 ≤ 10 * end + 2)

-- the lexemes that stand for the last fault and weren't yielded yet
abbrev pub stands_still : RecoveryState → List (Spanned TokenView)
stands_still state = option_to_list (option_map lexeme_view state.stand_in)

-- What is left, by what was told: the lexemes that stand for the last fault, of which some were yielded, and then the items of
-- the part.
abbrev pub IsLeftOf : RecoveryState → Origin → Type 0
IsLeftOf state origin =
    (stands : List grammar.Lexeme) × (after_faults state.fault_count (items.found state.text.now) ≡ items.given stands ++ map (moved_item state.begin) (items_since origin (part_of state)))
    × (state.stand_in_count ≤ length stands) × (stands_still state ≡ map shown_lexeme (drop state.stand_in_count stands))

-- a lexeme lies in a text, between characters
abbrev pub IsPlacedIn : Text → ℕ × Token × ℕ → Type 0
IsPlacedIn text lexeme = IsWithin text lexeme.0 lexeme.2 × IsCharBoundary text lexeme.0 × IsCharBoundary text lexeme.2

-- Where a lexeme stands for the last fault still, nothing was yielded since.
abbrev pub Waits : RecoveryState → Type 0
Waits state = IfSome state.stand_in (λ lexeme. (state.state.has_ended ≡ false) × (state.state.yielded_count ≡ 0) × (state.stand_in_count ≡ 0) × IsPlacedIn state.text.now lexeme)

-- what stands for a fault of the part, if something does
pub record StandsFor (state : RecoveryState) (fault : Spanned Fault) (stand_in : Option (ℕ × Token × ℕ)) : Type 0 where
  pub views : option_to_list (option_map lexeme_view stand_in) ≡ map shown_lexeme (map (moved state.begin) (stand_ins_at state.state.reader.at (part_of state) fault))
  pub placed : IfSome stand_in (IsPlacedIn state.text.now)

-- lexing goes on in the part
pub record IsOnward (state : RecoveryState) : Type 0 where
  pub origin : Origin
  pub rest : IsRest state.begin (part_of state) origin
  pub lexing : IsLexingIn (course_of origin (part_of state)) (part_of state) state.state
  pub left : IsLeftOf state origin
  pub comment : (at : ℕ) → ends_by_comment at (take state.state.yielded_count (course_of origin (part_of state)).lexemes) ≡ is_end state.comment state.state.yielded_count at
  pub earlier : IfSome state.comment (λ comment. comment.0 ≤ state.state.yielded_count)
  pub reads : HasReadBefore state.begin (begin_of origin) state.fault_count state.earlier_reads

-- a lexer that goes on after faults, unless out of memory has ended it
pub record IsRecovering (state : RecoveryState) : Type 0 where
  pub is_part : IsPart state
  pub lexing : (course : Course) × IsLexingIn course (part_of state) state.state
  pub onward : state.state.has_ended ≡ false → IsOnward state
  pub waits : Waits state

-- the next item of the part was found
pub record IsAdvanced (before : RecoveryState) (item : Option (Result (ℕ × Token × ℕ) (OrMemory (ℕ × LexemeError × ℕ)))) (now : RecoveryState) : Type 0 where
  pub recovering : IsRecovering before
  pub none : before.stand_in ≡ None
  pub ended : before.state.has_ended ≡ true → (item ≡ None) × (now.state.reader.reads ≡ before.state.reader.reads)
  pub found : before.state.has_ended ≡ false → (course : Course) → IsLexingIn course (part_of before) before.state → HasFound course (part_of before) before.state item now.state
  pub lexing : (course : Course) → IsLexingIn course (part_of before) before.state → IsLexingIn course (part_of before) now.state
  pub within : OffsetsHold (IsWithin (part_of before)) item
  pub between : OffsetsHold (λ from to. IsCharBoundary (part_of before) from × IsCharBoundary (part_of before) to) item
  pub count : now.state.yielded_count ≡ before.state.yielded_count + yielded_by item
  pub ends : now.state.has_ended ≡ (before.state.has_ended || is_ended_by item)
  pub own : now.state.reader.text.now ≡ part_of before
  pub after : now ≡ record before { state = now.state }

-- the fault of the part was taken
pub record IsStopped (state : RecoveryState) (fault : Spanned Fault) : Type 0 where
  pub is_part : IsPart state
  pub lexing : (course : Course) × IsLexingIn course (part_of state) state.state
  pub origin : Origin
  pub rest : IsRest state.begin (part_of state) origin
  pub here : IsAtFault (course_of origin (part_of state)) (part_of state) fault state.state
  pub ended : state.state.has_ended ≡ true
  pub none : state.stand_in ≡ None
  pub left : IsLeftOf state origin
  pub comment : (at : ℕ) → ends_by_comment at (course_of origin (part_of state)).lexemes ≡ is_end state.comment (length (course_of origin (part_of state)).lexemes) at
  pub reads : HasReadBefore state.begin (begin_of origin) state.fault_count state.earlier_reads
  pub paid : AreReadsTo (part_of state) fault state.state.reader.reads
  pub within : IsWithin (part_of state) fault.begin fault.end
  pub begins : IsCharBoundary (part_of state) fault.begin
  pub ends : IsCharBoundary (part_of state) fault.end

-- the fault was passed, or out of memory ended the lexer in its place
abbrev pub HasPassedOn : RecoveryState → Spanned Fault → OrMemory (Diagnosed ErrorKind) → RecoveryState → Type 0
HasPassedOn old fault (Error exception) new =
    IsRecovering new × (new.state.has_ended ≡ false) × IsException old.code_map (moved old.begin fault) exception × (new.state.yielded_count ≡ 0)
    × (new.stand_in_count ≡ 0) × (new.fault_count ≡ old.fault_count + 1) × (new.text ≡ old.text) × (new.code_map ≡ old.code_map) × AreReadsOn old.text.now new.fault_count (more_reads new.earlier_reads new.state.reader.reads)
HasPassedOn old fault Memory new =
    IsRecovering new × (new.state.has_ended ≡ true) × (new.fault_count ≡ old.fault_count) × (new.text ≡ old.text) × (new.code_map ≡ old.code_map)
