-- Lexemes that stand for the bytes of a fault, so that a parser can go on with them.
use Rattle.std.specs.Prelude.{ℕ, ◌+◌, ◌-◌, Bool, ◌==◌, ◌||◌, not, if◌then◌else◌, nat_eq, List, [], ◌∷◌, length, take, drop, codes}
use Rattle.std.specs.List.{ends_with, prefix_len, starts_with}
use Rattle.starlark_grammar.specs.Words.{Text, SingleQuote, DoubleQuote}
use Rattle.starlark_grammar.specs.Items.{closing_quotes, quote_byte}
use Rattle.starlark_grammar.specs.KeptLines.{literal_opening, with_literal_at}
use Rattle.starlark_grammar.specs.Numbers.{integer_of}
use Rattle.starlark_grammar.specs.Reading.{History, read_len}
use Rattle.starlark_grammar.specs.Tokens.{Token, Bytes, Identifier, Int, String, Lexeme, Opening, Spanned, Fault, InvalidEscapeSequence, ReservedKeyword, StartsZero, UnfinishedStringLiteral}

-- A text without the quotes at its front, and without those at its end.
abbrev pub without_quotes : Text → Text → Text
without_quotes quotes text = before_end (if starts_with nat_eq text quotes then drop (length quotes) text else text)
  where
    before_end : Text → Text
    before_end text = if ends_with nat_eq text quotes then take (length text - length quotes) text else text

-- A literal of text or bytes with escapes as a token, by its opening: its value is the body as it is written.
unfoldable pub written_literal : Opening → Text → Token
written_literal opening literal =
    if starts_with nat_eq literal (codes "b") then Bytes (without_quotes (closing_quotes opening) (drop 1 literal)) else String (without_quotes (closing_quotes opening) literal)

abbrev pub is_quote : ℕ → Bool
is_quote b = b == quote_byte SingleQuote || b == quote_byte DoubleQuote

-- what is written after the first quote of a literal
abbrev pub after_first_quote : Text → Text
after_first_quote literal = drop (1 + prefix_len (λ b. not (is_quote b)) literal) literal

-- An open quote as a token: its value is what is written after its quote.
unfoldable pub written_quote : Text → Token
written_quote literal = if starts_with nat_eq literal (codes "b") || starts_with nat_eq literal (codes "rb") then Bytes (after_first_quote literal) else String (after_first_quote literal)

-- The lexemes that stand for a fault of a text, whose literal is from byte `at` on if it is a bad escape of one. An unfinished
-- literal is an open quote here.
unfoldable pub stand_ins_at : (at : ℕ) → Text → Spanned Fault → List Lexeme
stand_ins_at at text fault = by fault.node
  where
    end : ℕ
    end = (with_literal_at at text fault).end

    by : Fault → List Lexeme
    by (ReservedKeyword word) = record { begin = fault.begin; node = Identifier word; end = fault.end } ∷ []
    by (StartsZero word) = record { begin = fault.begin; node = Int (integer_of 10 word); end = fault.end } ∷ []
    by (InvalidEscapeSequence escape) = record { begin = at; node = written_literal (literal_opening at text fault.begin) (take (end - at) (drop at text)); end = end } ∷ []
    by UnfinishedStringLiteral = record { begin = fault.begin; node = written_quote (take (fault.end - fault.begin) (drop fault.begin text)); end = fault.end } ∷ []
    by other = []

-- those for a fault of a text after a history
abbrev pub stand_ins : History → Text → Spanned Fault → List Lexeme
stand_ins history text fault = stand_ins_at (read_len history text) text fault
