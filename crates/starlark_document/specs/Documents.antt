-- Documents, as their users see them: texts that change by edits, what is found in them, and what an edit changed.
use Rattle.std.specs.Prelude.{◌≡◌, ◌≤◌, ◌<◌, ◌+◌, ◌-◌, ◌*◌, ◌^◌, ◌↔◌, ◌&&◌, ◌⊎◌, ℕ, Bool, cond, false, nat_le, nat_lt, List, [], ◌∷◌, ◌++◌, map, length, take, drop, codes, Option, Some, None, IfSome, ⊤}
use Rattle.std.specs.Borrow.{Bor}
use Rattle.std.specs.Iterator.{Count, at_most}
use Rattle.std.specs.List.{AllByRecursion, slice_get}
use Rattle.std.specs.Str.{IsCharBoundary}
use Rattle.starlark_document.specs.declared.document.Change.{Change}
use Rattle.starlark_base.specs.declared.edit.Edit.{Edit}
use Rattle.starlark_document.specs.declared.document.EditError.{EditError}
use Rattle.starlark_document.specs.declared.document.EditError.TheVariants.{BadRange, TooLong, Memory}
use Rattle.starlark_grammar.specs.Tokens as grammar
use Rattle.starlark_grammar.specs.Words.{Text}
use Rattle.starlark_grammar.specs.Found.{faults_in, found, lexemes_in}
use Rattle.starlark_grammar.specs.Joining.{begins_plainly, without_last_newline}
use Rattle.starlark_recovery.specs.RecoveringLexer.{most_reads_on}
use Rattle.starlark_errors.specs.declared.error.kinds.ErrorKind.{ErrorKind}
use Rattle.starlark_errors.specs.declared.error.kinds.ErrorKind.TheVariants.{Parser}
use Rattle.starlark_errors.specs.declared.error.kinds.ParserMessage.TheVariants.{Lexeme}
use Rattle.starlark_token.specs.declared.lexeme_error.LexemeError.{LexemeError}
use Rattle.starlark_token.specs.Lexemes.{fault_view, shown_lexeme}
use Rattle.starlark_token.specs.TokenViews.{TokenView, is_newline_view, token_view}
use Rattle.starlark_token.specs.declared.tokens.Token.{Token}

-- a document: its text, the texts of the segments in which it is lexed, in order, and their least length
pub record DocumentView : Type 0 where
  pub text : Text
  pub segments : List Text
  pub least_len : ℕ

-- both offsets lie in the text, in order, and at character boundaries
abbrev pub IsRange : Text → ℕ → ℕ → Type 0
IsRange text from to = (from ≤ to) × IsCharBoundary text from × IsCharBoundary text to

-- a text of which the bytes from one offset to another are replaced
abbrev pub edited : ℕ → ℕ → Text → Text → Text
edited from to inserted text = take from text ++ (inserted ++ drop to text)

-- an edit of the code: its range, and the text in its place
abbrev pub edit_view : Edit → ℕ × ℕ × Text
edit_view edit = (edit.from, edit.to, edit.text.now)

-- the text after edits one after another
abbrev pub text_after : List (ℕ × ℕ × Text) → Text → Text
text_after [] text = text
text_after (edit ∷ edits) text = text_after edits (edited edit.0 edit.1 edit.2 text)

-- an edit that can be made: its range is one of the text, which stays shorter than 2^32 bytes
abbrev pub IsEdit : Text → ℕ × ℕ × Text → Type 0
IsEdit text edit = IsRange text edit.0 edit.1 × (length (edited edit.0 edit.1 edit.2 text) < 2 ^ 32)

-- each edit can be made in the text after those before it
abbrev pub AreEdits : Text → List (ℕ × ℕ × Text) → Type 0
AreEdits text [] = ⊤
AreEdits text (edit ∷ edits) = IsEdit text edit × AreEdits (edited edit.0 edit.1 edit.2 text) edits

-- All edits before an index were made, and that one is refused: its range isn't one of the text, or the text after it
-- would be too long, or memory ran out.
pub record IsStop (text : Text) (edits : List (ℕ × ℕ × Text)) (at : ℕ) (error : EditError) (stopped : Text) : Type 0 where
  pub edit : ℕ × ℕ × Text
  pub is_edit : slice_get edits at ≡ Some edit
  pub before : AreEdits text (take at edits)
  pub after : stopped ≡ text_after (take at edits) text
  pub range : (error ≡ BadRange) ↔ (IsRange stopped edit.0 edit.1 → ⊥)
  pub too_long : (error ≡ TooLong) ↔ (IsRange stopped edit.0 edit.1 × (2 ^ 32 ≤ length (edited edit.0 edit.1 edit.2 stopped)))

-- all lexemes of a text that is lexed on after its faults, as the code shows them
abbrev pub lexemes_of : Text → List (grammar.Spanned TokenView)
lexemes_of text = map shown_lexeme (lexemes_in (found text))

-- all faults of a text that is lexed on after its faults
abbrev pub faults_of : Text → List (grammar.Spanned grammar.Fault)
faults_of text = faults_in (found text)

-- the span ends at or before an offset
abbrev pub ends_by : {A : Type 0} → ℕ → grammar.Spanned A → Bool
ends_by at x = nat_le x.end at

-- the printed text of an error of an edit
abbrev pub edit_error_text : EditError → Text
edit_error_text BadRange = codes "the range isn't one of the text"
edit_error_text TooLong = codes "the text would be longer than 4294967295 bytes"
edit_error_text Memory = codes "out of memory"

-- the kind of error that a fault of the grammar is
abbrev pub IsKindOf : grammar.Fault → ErrorKind → Type 0
IsKindOf fault kind = (error : LexemeError) × (fault_view error ≡ Some fault) × (kind ≡ Parser (Lexeme error))

-- each of the spans lies in a range
abbrev pub AllInside : {A : Type 0} → ℕ → ℕ → List (grammar.Spanned A) → Type 0
AllInside begin end spans = AllByRecursion (λ x. (begin ≤ x.begin) × (x.end ≤ end)) spans

-- Before a range two lists of spans are the same, and after it, too, but that they are moved: the range ends at one
-- offset in the first list, and at another in the second.
pub record SameOutside {A : Type 0} (begin first_end second_end : ℕ) (first second : List (grammar.Spanned A)) : Type 0 where
  pub before : List (grammar.Spanned A)
  pub first_inside : List (grammar.Spanned A)
  pub second_inside : List (grammar.Spanned A)
  pub after : List (grammar.Spanned A)
  pub is_first : first ≡ before ++ (first_inside ++ map (grammar.moved first_end) after)
  pub is_second : second ≡ before ++ (second_inside ++ map (grammar.moved second_end) after)
  pub all_before : AllInside 0 begin before
  pub all_first : AllInside begin first_end first_inside
  pub all_second : AllInside begin second_end second_inside

-- Outside of the ranges of a change, the lexemes and faults of the new text are those of the old one, and what is after
-- them has moved with the text. At least the bytes of the new range were lexed, and at each start of lexing at most those;
-- lexing started at most twice for each byte that was lexed, and once more. There were at most so many reads for the bytes
-- that were lexed and the starts of lexing; some byte of the new range was read, and where lexing started once, each.
pub record IsChange (old new : Text) (change : Change) : Type 0 where
  pub order : change.begin ≤ change.new_end
  pub within : change.new_end ≤ length new
  pub lengths : change.new_end + length old ≡ change.old_end + length new
  pub lexemes : SameOutside change.begin change.old_end change.new_end (lexemes_of old) (lexemes_of new)
  pub faults : SameOutside change.begin change.old_end change.new_end (faults_of old) (faults_of new)
  pub least_lexed : change.new_end ≤ change.begin + change.lexed
  pub most_lexed : change.lexed ≤ change.starts * (change.new_end - change.begin)
  pub most_starts : change.starts ≤ 2 * change.lexed + 1
  pub most_reads : change.reads ≤ most_reads_on change.lexed change.starts
  pub some_reads : change.begin < change.new_end → 0 < change.reads
  pub least_reads : change.starts ≡ 1 → change.lexed ≤ change.reads

-- a `Newline` of some bytes
abbrev pub is_line_end : grammar.Spanned TokenView → Bool
is_line_end lexeme = is_newline_view lexeme.node && nat_lt lexeme.begin lexeme.end

-- where the last `Newline` of some bytes ends, or an offset if there is none
abbrev pub line_end_from : ℕ → List (grammar.Spanned TokenView) → ℕ
line_end_from at [] = at
line_end_from at (lexeme ∷ lexemes) = line_end_from (cond (is_line_end lexeme) lexeme.end at) lexemes

-- a text that ends with a `Newline` of some bytes, which closes it
abbrev pub EndsWithLine : Text → Type 0
EndsWithLine text = line_end_from 0 (lexemes_of text) ≡ length text

-- texts one after another
abbrev pub joined : List Text → Text
joined [] = []
joined (text ∷ more) = text ++ joined more

-- a segment may end at an offset of a text: content at column 0 follows it, and the least length is on both sides
abbrev pub may_end : (least_len : ℕ) → Text → (at : ℕ) → Bool
may_end least_len text at = nat_le least_len at && nat_le least_len (length text - at) && begins_plainly (drop at text)

-- none of some lexemes of a text is a `Newline` of some bytes that a segment may end after
abbrev pub AreInside : (least_len : ℕ) → Text → List (grammar.Spanned TokenView) → Type 0
AreInside least_len text lexemes = AllByRecursion (λ lexeme. is_line_end lexeme && may_end least_len text lexeme.end ≡ false) lexemes

-- a text in which no segment may end: but for its closing `Newline`, none of its lexemes is one after which one may
abbrev pub IsUncut : (least_len : ℕ) → Text → Type 0
IsUncut least_len text = AreInside least_len text (map shown_lexeme (without_last_newline (lexemes_in (found text))))

-- some segments have the least length, unless there is only one
abbrev pub AreLong : (least_len : ℕ) → List Text → Type 0
AreLong least_len segments = (length segments ≤ 1) ⊎ AllByRecursion (λ text. least_len ≤ length text) segments

-- a new document: its segments are its text, have the least length, and can't be cut
pub record IsNew (least_len : ℕ) (text : Text) (document : DocumentView) : Type 0 where
  pub text_is : document.text ≡ text
  pub least : document.least_len ≡ least_len
  pub joined_is : joined document.segments ≡ text
  pub long : AreLong least_len document.segments
  pub uncut : AllByRecursion (IsUncut least_len) document.segments

-- an offset lies in the segment of an index, or after all others
pub record IsHeld (segments : List Text) (index at : ℕ) : Type 0 where
  pub inside : index < length segments
  pub begin : length (joined (take index segments)) ≤ at
  pub end : index + 1 < length segments → at < length (joined (take (index + 1) segments))

-- a text is what the segments from one index to below another have become
abbrev pub HaveBecome : (old : List Text) (first end : ℕ) (own new : Text) → Type 0
HaveBecome old first end own new = new ≡ joined (take first old) ++ (own ++ joined (drop end old))

-- An edit of a range of bytes replaces the segments from that of its start to that of its end. It takes in the one before
-- them only where their new text doesn't begin plainly, and others after them while that of all doesn't end with a
-- `Newline`: at most twice as many as with which it doesn't, and one. The new segments
-- have the least length, and can't be cut.
pub record IsLocal (from to : ℕ) (old new : DocumentView) (change : Change) : Type 0 where
  pub holder : ℕ
  pub last : ℕ
  pub first : ℕ
  pub end : ℕ
  pub held : IsHeld old.segments holder from
  pub order : holder ≤ last
  pub near : holder < last → length (joined (take last old.segments)) < to
  pub start : (first ≡ holder) ⊎ ((first + 1 ≡ holder) × ((own : Text) × HaveBecome old.segments holder (last + 1) own new.text × (begins_plainly own ≡ false)))
  pub stop : (end ≡ last + 1) ⊎ ((more : ℕ) × (last + 1 + more < end) × (end ≤ last + 1 + (2 * more + 1)) × ((own : Text) × HaveBecome old.segments first (last + 1 + more) own new.text × (EndsWithLine own → ⊥)))
  pub fresh : List Text
  pub kept : new.segments ≡ take first old.segments ++ (fresh ++ drop end old.segments)
  pub least : new.least_len ≡ old.least_len
  pub long : AreLong old.least_len fresh
  pub uncut : AllByRecursion (IsUncut old.least_len) fresh
  pub begin : change.begin ≡ length (joined (take first old.segments))
  pub old_end : change.old_end ≡ length (joined (take end old.segments))

-- what a call of an iterator over lexemes returns, and what is left after it
pub record IsNextLexeme (old : List (grammar.Spanned TokenView)) (answer : Option (ℕ × Bor Token × ℕ)) (new : List (grammar.Spanned TokenView)) : Type 0 where
  pub some : IfSome answer (λ found. slice_get old 0 ≡ Some (record { begin = found.0; node = token_view found.1.now; end = found.2 }))
  pub none : answer ≡ None → old ≡ []
  pub after : new ≡ drop 1 old

-- what a call of an iterator over faults returns, and what is left after it
pub record IsNextFault (old : List (grammar.Spanned grammar.Fault)) (answer : Option (ℕ × Bor ErrorKind × ℕ)) (new : List (grammar.Spanned grammar.Fault)) : Type 0 where
  pub some : IfSome answer (λ found. (fault : grammar.Spanned grammar.Fault) × (slice_get old 0 ≡ Some fault) × (found.0 ≡ fault.begin) × IsKindOf fault.node found.1.now × (found.2 ≡ fault.end))
  pub none : answer ≡ None → old ≡ []
  pub after : new ≡ drop 1 old

-- the number of items that are left
abbrev pub left_count : {A : Type 0} → List A → Count
left_count left = at_most (length left)
