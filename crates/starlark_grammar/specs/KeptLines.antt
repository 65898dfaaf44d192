-- Faults that keep their lines: lexing goes on after their bytes, with all that was open. So it does after a literal with a
-- bad escape that is closed, and after one that the end of its line stops, whose brackets count.
use Rattle.std.specs.Prelude.{ℕ, ◌+◌, ◌-◌, Bool, true, false, ◌&&◌, ◌||◌, not, ◌==◌, if◌then◌else◌, max, nat_eq, nat_lt, List, [], ◌∷◌, count_by, drop, length, take, codes}
use Rattle.std.specs.List.{prefix_len, starts_with}
use Rattle.std.specs.Str.{byte, bytes_eq}
use Rattle.starlark_grammar.specs.declared.class.Terminal.TheVariants.{ClosingRound, OpeningRound}
use Rattle.starlark_grammar.specs.Words.{Text, SingleQuote, DoubleQuote}
use Rattle.starlark_grammar.specs.Depths.{Mode, is_any_closing, is_any_opening, mode_after, is_outside}
use Rattle.starlark_grammar.specs.Items.{closing_quotes, quote_byte}
use Rattle.starlark_grammar.specs.AfterFaults.{is_tab}
use Rattle.starlark_grammar.specs.Margins.{begins_with_line_end}
use Rattle.starlark_grammar.specs.Pieces.{Before, is_nothing, opening_of}
use Rattle.starlark_grammar.specs.Reading.{History, history_after, outcome_after, read_len}
use Rattle.starlark_grammar.specs.Tokens.{Token, Comment, Lexeme, Opening, Spanned, Fault, InvalidEscapeSequence, InvalidInput, InvalidTab, ReservedKeyword, StartsZero, UnfinishedStringLiteral, Word}

abbrev pub is_comment : Token → Bool
is_comment (Comment text) = true
is_comment token = false

abbrev pub is_comment_to : ℕ → Lexeme → Bool
is_comment_to at lexeme = is_comment lexeme.node && lexeme.end == at

-- whether the last of some lexemes is a comment that ends at an offset
abbrev pub ends_by_comment : ℕ → List Lexeme → Bool
ends_by_comment at [] = false
ends_by_comment at (lexeme ∷ []) = is_comment_to at lexeme
ends_by_comment at (lexeme ∷ more ∷ lexemes) = ends_by_comment at (more ∷ lexemes)

-- Whether a fault keeps its line, by what was before its text, and by the lexemes before it. A `}` that begins no token is in
-- the text of an f-string, and a character right after a comment is a CR: the bytes after these would belong to another lexeme.
-- A tab at the start of a text, or at a line end, is in a margin.
unfoldable pub keeps_line : Before → Text → List Lexeme → Spanned Fault → Bool
keeps_line before text lexemes fault = go fault.node
  where
    go : Fault → Bool
    go (ReservedKeyword word) = true
    go (StartsZero word) = true
    go (InvalidInput character) = not (bytes_eq character (codes "}")) && not (ends_by_comment fault.begin lexemes)
    go InvalidTab = not (is_nothing before && fault.begin == 0 || begins_with_line_end (drop fault.begin text))
    go other = false

-- where lexing goes on after such a fault: after its bytes, or after all tabs from that of a tab on
abbrev pub passed_end : Text → Spanned Fault → ℕ
passed_end text fault = if is_tab fault.node then fault.begin + prefix_len (nat_eq (byte "\t")) (drop fault.begin text) else fault.end

-- Literals with a bad escape

-- The opening of a literal by its first bytes, as that of a raw one: its quote is the first of these that is a quote.
abbrev pub raw_opening : Text → Opening
raw_opening [] = opening_of true DoubleQuote []
raw_opening (b ∷ bs) = if b == quote_byte SingleQuote then opening_of true SingleQuote bs else (if b == quote_byte DoubleQuote then opening_of true DoubleQuote bs else raw_opening bs)

-- what is left of a literal: how many bytes, and whether quotes close it
pub record LiteralRest : Type 0 where
  pub len : ℕ
  pub is_closed : Bool

-- with so many bytes more in front
abbrev pub longer_rest : ℕ → LiteralRest → LiteralRest
longer_rest n rest = record rest { len = n + rest.len }

-- What is left of a literal at the front of a text, if each backslash only takes the byte after it: up to its closing quotes,
-- or up to a line end that it may not have, or the text's end.
unfoldable pub rest_from : Opening → (is_taken : Bool) → Text → LiteralRest
rest_from opening is_taken [] = record { len = 0; is_closed = false }
rest_from opening true (b ∷ bs) = longer_rest 1 (rest_from opening false bs)
rest_from opening false (b ∷ bs) =
    if starts_with nat_eq (b ∷ bs) (closing_quotes opening) then record { len = length (closing_quotes opening); is_closed = true }
    else (if b == byte "\n" && not opening.is_triple then record { len = 0; is_closed = false }
    else longer_rest 1 (rest_from opening (b == byte "\\") bs))

-- A bad escape in a literal of text or bytes. One in the text of an f-string names its backslash alone; and one that is missing
-- is at the text's end.
abbrev pub is_bad_escape : Fault → Bool
is_bad_escape (InvalidEscapeSequence text) = not (bytes_eq text (codes "\\"))
is_bad_escape fault = false

-- the opening of the literal from byte `at` on, whose bad escape begins at an offset; it has at most five bytes
abbrev pub literal_opening : (at : ℕ) → Text → ℕ → Opening
literal_opening at text begin = raw_opening (take 5 (drop at (take begin text)))

-- what is left of it at the bad escape
unfoldable pub literal_rest : (at : ℕ) → Text → ℕ → LiteralRest
literal_rest at text begin = rest_from (literal_opening at text begin) false (drop begin text)

-- A fault with all of its literal, if it is a bad escape in that from byte `at` on.
unfoldable pub with_literal_at : (at : ℕ) → Text → Spanned Fault → Spanned Fault
with_literal_at at text fault = if is_bad_escape fault.node then record fault { end = max fault.end (fault.begin + (literal_rest at text fault.begin).len) } else fault

-- whether it is a bad escape in a literal that is closed
abbrev pub closes_literal : (at : ℕ) → Text → Spanned Fault → Bool
closes_literal at text fault = is_bad_escape fault.node && (literal_rest at text fault.begin).is_closed

-- Open quotes

abbrev pub is_unfinished : Fault → Bool
is_unfinished UnfinishedStringLiteral = true
is_unfinished fault = false

-- An open quote: a literal of text or bytes outside of f-strings that the end of its line stops. One with three quotes ends
-- with the text.
abbrev pub is_open_quote : Mode → Text → Spanned Fault → Bool
is_open_quote mode text fault = is_unfinished fault.node && is_outside mode && nat_lt fault.end (length text)

abbrev pub is_opening_byte : ℕ → Bool
is_opening_byte b = b == byte "(" || b == byte "[" || b == byte "{"

abbrev pub is_closing_byte : ℕ → Bool
is_closing_byte b = b == byte ")" || b == byte "]" || b == byte "}"

-- the tokens with a byte of an open quote, if that is a bracket: a closing one counts if more were opened than closed
abbrev pub with_bracket : ℕ → List Token → List Token
with_bracket b tokens =
    if is_opening_byte b then Word OpeningRound ∷ tokens
    else (if is_closing_byte b && nat_lt (count_by is_any_closing tokens) (count_by is_any_opening tokens) then Word ClosingRound ∷ tokens
    else tokens)

-- The tokens with all brackets of an open quote. Their shapes make no difference outside of f-strings.
unfoldable pub with_brackets : List Token → Text → List Token
with_brackets tokens [] = tokens
with_brackets tokens (b ∷ bs) = with_brackets (with_bracket b tokens) bs

-- The tokens before what is passed with a fault, and those that count in it.
abbrev pub tokens_past : List Token → Text → Spanned Fault → List Token
tokens_past tokens text fault = if is_open_quote (mode_after tokens) text fault then with_brackets tokens (take (fault.end - fault.begin) (drop fault.begin text)) else tokens

-- The fault of a text after a history, with all of its literal, …
abbrev pub with_literal : History → Text → Spanned Fault → Spanned Fault
with_literal history text fault = with_literal_at (read_len history text) text fault

-- … and whether all stays open after it.
abbrev pub stays_open : History → Text → Spanned Fault → Bool
stays_open history text fault =
    keeps_line history.before text (outcome_after history text).lexemes fault || closes_literal (read_len history text) text fault || is_open_quote (mode_after (history_after history text).tokens) text fault
