-- Margins of the code, as the grammar sees them, and what taking them does.
use Rattle.std.specs.Prelude.{◌≡◌, ◌≢◌, ◌≤◌, true, false, ℕ, ◌+◌, ◌-◌, ◌==◌, ◌&&◌, ◌||◌, Bool, not, get_or, List, [], ◌++◌, if◌then◌else◌, Option, Some, None, map, length, nat_eq, nat_lt, count_by, option_to_list, take, drop}
use Rattle.std.specs.List.{list_all, list_any}
use Rattle.std.specs.Str.{byte}
use Rattle.starlark_grammar.specs.Words.{Text}
use Rattle.starlark_grammar.specs.Tokens as grammar
use Rattle.starlark_grammar.specs.Margins as margins
use Rattle.starlark_grammar.specs.Margins.{indentation, is_content, margin_len, open_widths, width_of}
use Rattle.starlark_grammar.specs.Pieces as pieces
use Rattle.starlark_token.specs.Lexemes.{fault_view}
use Rattle.starlark_reader.specs.Inner.Pending.{IsPending, lexemes_after, pending_lexemes}
use Rattle.starlark_reader.specs.declared.margins.Margin.{Margin}
use Rattle.starlark_reader.specs.declared.pending.AfterComments.{AfterComments}
use Rattle.starlark_reader.specs.declared.pending.Pending.{Pending}
use Rattle.starlark_token.specs.declared.lexeme_error.LexemeError.{LexemeError}

-- the code has measured the blanks right
pub record IsBlanks (blanks : Text) (found : Margin) : Type 0 where
  pub len : found.blanks ≡ length blanks
  pub width : found.width ≡ count_by (nat_eq (byte " ")) blanks
  pub has_tab : found.has_tab ≡ list_any (nat_eq (byte "\t")) blanks

-- the code has measured the margin right
pub record IsMargin (margin : margins.Margin) (found : Margin) : Type 0 where
  pub at : found.at ≡ margin.at
  pub blanks : IsBlanks margin.blanks found
  pub is_content : found.is_content ≡ is_content margin.remainder

-- a margin of `width` spaces alone, which content follows
abbrev pub spaces_margin : ℕ → Margin
spaces_margin width = record { at = 0; blanks = width; width = width; has_tab = false; is_content = true }

-- the greatest open width; 0 if none is open
abbrev pub greatest_of : List ℕ → ℕ
greatest_of levels = get_or levels (length levels - 1) 0

-- a content line of a width leaves the first `count` open widths: the others are greater, and the
-- last of the first ones isn't
pub record IsLeftBy (levels : List ℕ) (width count : ℕ) : Type 0 where
  pub inside : count ≤ length levels
  pub closed : list_all (nat_lt width) (drop count levels) ≡ true
  pub last : greatest_of (take count levels) ≤ width

-- the widths that are greater than a content line's were closed, or, if the line's width isn't the
-- greatest one left, none was
abbrev pub IsClosed : ℕ → (old new : List ℕ) → Option ℕ → Type 0
IsClosed width old new None = (count : ℕ) × IsLeftBy old width count × (greatest_of (take count old) ≢ width) × (new ≡ old)
IsClosed width old new (Some closed) = (count : ℕ) × IsLeftBy old width count × (greatest_of (take count old) ≡ width) × (new ≡ take count old) × (closed ≡ length old - count)

-- whether a margin leaves the open widths as they are: no content follows, or it has no tab and
-- the greatest open width
abbrev pub keeps_widths : Margin → List ℕ → Bool
keeps_widths margin levels = not margin.is_content || (not margin.has_tab && margin.width == greatest_of levels)

-- the lexemes of a margin without fault after its comments: an `Indent` or `Dedent`s
abbrev pub margin_indentation : List ℕ → margins.Margin → List grammar.Lexeme
margin_indentation levels margin = if is_content margin.remainder then indentation levels margin else []

-- all lexemes of a margin without fault
abbrev pub margin_lexemes : List ℕ → margins.Margin → List grammar.Lexeme
margin_lexemes levels margin = margin.comments ++ margin_indentation levels margin

-- the width of a margin, if content follows
abbrev pub margin_width : margins.Margin → Option ℕ
margin_width margin = if is_content margin.remainder then Some (width_of margin) else None

-- the piece of a newline of `len` bytes and a margin without fault
abbrev pub margin_piece : ℕ → List grammar.Lexeme → List ℕ → margins.Margin → pieces.Piece
margin_piece len line_end levels margin = record {
  len = len + margin_len margin;
  lexemes = line_end ++ map (grammar.moved len) (margin_lexemes levels margin);
  width = margin_width margin;
  sort = pieces.Layout;
}

-- the fault of a margin that has one, after a newline of `len` bytes: a tab, or else a width of no
-- open indent
abbrev pub margin_fault : ℕ → margins.Margin → pieces.Step
margin_fault len margin = if margins.has_tab margin then pieces.fault 0 grammar.InvalidTab 0 else pieces.fault 0 grammar.Indentation (len + margin_len margin)

-- the step is the fault found, which begins at 0 and ends at the offset found
abbrev pub IsFaultFound : pieces.Step → LexemeError × ℕ → Type 0
IsFaultFound stands found = (node : grammar.Fault) × (fault_view found.0 ≡ Some node) × (stands ≡ pieces.fault 0 node found.1)

-- the margin has no fault, its lexemes after the comments are pending, and its width went to the
-- open ones
pub record IsLaidOut (begin : ℕ) (margin : margins.Margin) (widths old new : List ℕ) (remainder : AfterComments) : Type 0 where
  pub stands : (len : ℕ) (before : List grammar.Lexeme) → pieces.margin_step len before old margin ≡ pieces.Stands (margin_piece len before old margin)
  pub those_after : lexemes_after remainder ≡ map (grammar.moved begin) (margin_indentation old margin)
  pub open_now : new ≡ open_widths (widths ++ option_to_list (margin_width margin))

-- the margin has a fault, and nothing changed
pub record IsLeftOut (margin : margins.Margin) (old new : List ℕ) (remainder after_now : AfterComments) : Type 0 where
  pub stands : (len : ℕ) (before : List grammar.Lexeme) → pieces.margin_step len before old margin ≡ margin_fault len margin
  pub levels : new ≡ old
  pub same : after_now ≡ remainder

-- what taking a margin that begins at byte `begin` did, by its fault
abbrev pub IsLaid : Option (LexemeError × ℕ) → ℕ → margins.Margin → List ℕ → (old new : List ℕ) → AfterComments → AfterComments → Type 0
IsLaid None begin margin widths old new remainder after_now = IsLaidOut begin margin widths old new after_now
IsLaid (Some found) begin margin widths old new remainder after_now = IsLeftOut margin old new remainder after_now

-- the step is a piece of `len` bytes, its lexemes are the given ones and then the pending ones, and
-- its width went to the open ones
pub record IsTaken (text : Text) (at : ℕ) (step : pieces.Step) (given : List grammar.Lexeme) (widths levels : List ℕ) (pending : Pending) (len : ℕ) : Type 0 where
  pub piece : pieces.Piece
  pub stands : step ≡ pieces.Stands piece
  pub whole : piece.len ≡ len
  pub is_pending : IsPending text pending
  pub lexemes : map (grammar.moved at) piece.lexemes ≡ given ++ pending_lexemes text pending
  pub open_now : levels ≡ open_widths (widths ++ option_to_list piece.width)

-- the step is a fault, the lexemes before it are pending, and the open widths are unchanged
pub record IsRefused (text : Text) (step : pieces.Step) (yielded_count : List grammar.Lexeme) (widths levels : List ℕ) (pending : Pending) (fault : LexemeError) (end : ℕ) : Type 0 where
  pub node : grammar.Fault
  pub is : fault_view fault ≡ Some node
  pub stands : step ≡ pieces.fault 0 node end
  pub is_pending : IsPending text pending
  pub lexemes : yielded_count ≡ pending_lexemes text pending
  pub open_now : levels ≡ open_widths widths
