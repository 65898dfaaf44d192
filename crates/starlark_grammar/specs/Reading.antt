-- Readings of a text, and the outcome.
use Rattle.std.specs.Prelude.{ℕ, zero, suc, ◌+◌, ◌-◌, List, [], ◌∷◌, ◌++◌, map, length, sum_by, replicate, Some, None, option_to_list}
use Rattle.starlark_grammar.specs.Words.{Text, Table, language}
use Rattle.starlark_grammar.specs.Tokens.{Token, Newline, Dedent, Lexeme, moved, Outcome}
use Rattle.starlark_grammar.specs.Depths.{mode_after, is_balanced}
use Rattle.starlark_grammar.specs.Margins.{margin_of, open_widths}
use Rattle.starlark_grammar.specs.Pieces.{Before, Nothing, Piece, Step, Stands, Fails, Situation, step_at}

-- What was read: the tokens, the last of them first; the widths of the content lines; what the last piece was.
pub record History : Type 0 where
  pub tokens : List Token
  pub widths : List ℕ
  pub before : Before

abbrev pub nothing : History
nothing = record { tokens = []; widths = []; before = Nothing }

-- the tokens of a list of lexemes, the last first, before those of an earlier list
abbrev pub tokens_onto : List Token → List Lexeme → List Token
tokens_onto earlier [] = earlier
tokens_onto earlier (lexeme ∷ lexemes) = tokens_onto (lexeme.node ∷ earlier) lexemes

-- what was read with one more piece
unfoldable pub after : History → Piece → History
after history piece = record {
  tokens = tokens_onto history.tokens piece.lexemes;
  widths = history.widths ++ option_to_list piece.width;
  before = piece.sort;
}

abbrev pub after_all : History → List Piece → History
after_all history [] = history
after_all history (piece ∷ pieces) = after_all (after history piece) pieces

unfoldable pub situation : History → Situation
situation history = record {
  mode = mode_after history.tokens;
  is_balanced = is_balanced history.tokens;
  levels = open_widths history.widths;
  before = history.before;
}

-- what stands at the front of a text, by what was read before it
unfoldable pub next_step : Table → History → Text → Step
next_step table history text = step_at table (situation history) text

abbrev pub pieces_len : List Piece → ℕ
pieces_len pieces = sum_by (λ (piece : Piece). piece.len) pieces

-- pieces, and what stands after them
pub record Reading : Type 0 where
  pub pieces : List Piece
  pub last : Step

abbrev pub read_onward : Step → (Piece → Reading) → Reading
read_onward (Stands piece) again = record { pieces = piece ∷ (again piece).pieces; last = (again piece).last }
read_onward step again = record { pieces = []; last = step }

-- The longest reading from a history on, of a text of which so many bytes belong to the piece before.
unfoldable pub read_from : Table → History → ℕ → Text → Reading
read_from table history passed [] = record { pieces = []; last = next_step table history [] }
read_from table history (suc passed) (b ∷ bs) = read_from table history passed bs
read_from table history zero (b ∷ bs) =
    read_onward (next_step table history (b ∷ bs)) (λ piece. read_from table (after history piece) (piece.len - 1) bs)

-- The longest reading of a text after a history. After none the first piece is a margin, which alone may be empty.
unfoldable pub read_after : Table → History → Text → Reading
read_after table history text = read_onward (next_step table history text) (λ piece. read_from table (after history piece) piece.len text)

-- the longest reading of a text
unfoldable pub read : Table → Text → Reading
read table text = read_after table nothing text

-- the lexemes of pieces of which the first begins at a place
abbrev pub lexemes_along : ℕ → List Piece → List Lexeme
lexemes_along at [] = []
lexemes_along at (piece ∷ pieces) = map (moved at) piece.lexemes ++ lexemes_along (at + piece.len) pieces

-- what closes a text without fault: a `Newline` of no bytes and a `Dedent` for each open width
abbrev pub closing : ℕ → History → List Lexeme
closing at history =
    record { begin = at; node = Newline; end = at } ∷ replicate (length (open_widths history.widths)) (record { begin = at; node = Dedent; end = at })

-- The lexemes before a fault: those of the pieces; where not even the first margin of a text stands, the comments of
-- that margin.
abbrev pub lexemes_before : Before → Text → List Piece → List Lexeme
lexemes_before Nothing text [] = (margin_of text).comments
lexemes_before before text pieces = lexemes_along 0 pieces

-- the outcome of a reading after a history, and of what stands after it
abbrev pub reading_outcome : History → Text → List Piece → Step → Outcome
reading_outcome history text pieces (Fails fault) = record { lexemes = lexemes_before history.before text pieces; fault = Some (moved (pieces_len pieces) fault) }
reading_outcome history text pieces step =
    record { lexemes = lexemes_along 0 pieces ++ closing (pieces_len pieces) (after_all history pieces); fault = None }

-- the outcome of a reading of a whole text
abbrev pub outcome_of : Text → List Piece → Step → Outcome
outcome_of text pieces last = reading_outcome nothing text pieces last

abbrev pub before_fault : Text → List Piece → List Lexeme
before_fault text pieces = lexemes_before Nothing text pieces

-- The outcome of a text by a table of words.
unfoldable pub outcome_in : Table → Text → Outcome
outcome_in table text = reading_outcome nothing text (read table text).pieces (read table text).last

-- the outcome of a text
unfoldable pub outcome : Text → Outcome
outcome = outcome_in language

-- the outcome of the rest of a text, after a history
unfoldable pub outcome_after : History → Text → Outcome
outcome_after history text = reading_outcome history text (read_after language history text).pieces (read_after language history text).last

-- what was read once such a rest is read, or up to its fault
unfoldable pub history_after : History → Text → History
history_after history text = after_all history (read_after language history text).pieces

-- how many bytes of such a rest are read, up to its end or its fault
unfoldable pub read_len : History → Text → ℕ
read_len history text = pieces_len (read_after language history text).pieces
