-- The first piece of a text, as the private functions of the parser find it. No public contract
-- cites this: those cite the grammar, which it meets.
use Rattle.std.proofs.Common.{ℕ, ◌+◌, Bool, false, cond, not, ◌==◌, [], ◌∷◌, length, take, drop, Result, Ok, Err}
use Rattle.std.specs.List.{prefix_len}
use Rattle.starlark_text.specs.declared.dot_format_parser.EscapeCurlyBrace.TheVariants.{Open, Close}
use Rattle.starlark_text.specs.declared.dot_format_parser.FormatConv.{FormatConv}
use Rattle.starlark_text.specs.declared.dot_format_parser.FormatErrorKind.{FormatErrorKind}
use Rattle.starlark_text.specs.declared.dot_format_parser.FormatErrorKind.TheVariants.{StandaloneClose, UnmatchedOpen, MissingConversion, InvalidConversion}
use Rattle.starlark_text.specs.declared.dot_format_parser.FormatToken.{FormatToken}
use Rattle.starlark_text.specs.Formats.{Text, is_open, is_close, is_brace, ends_name, Suffix, bare, bang_s, bang_r, suffix_text, conversion, Piece, plain, capture, escape, written, Token, token_of}
use Rattle.starlark_text.specs.Parsing.{token_view}

-- the suffix, if the closing brace follows it
abbrev pub closed : Suffix → Text → Result Suffix FormatErrorKind
closed suffix [] = Err UnmatchedOpen
closed suffix (b ∷ rest) = cond (is_close b) (Ok suffix) (Err UnmatchedOpen)

-- the suffix whose `!` stands before the text
abbrev pub converted : Text → Result Suffix FormatErrorKind
converted [] = Err InvalidConversion
converted (b ∷ rest) = cond (b == 115) (closed bang_s rest) (cond (b == 114) (closed bang_r rest) (cond (is_close b) (Err MissingConversion) (Err InvalidConversion)))

-- the suffix of the name that stands before the text
abbrev pub ending : Text → Result Suffix FormatErrorKind
ending [] = Err UnmatchedOpen
ending (b ∷ rest) = cond (is_close b) (Ok bare) (cond (b == 33) (converted rest) (Err UnmatchedOpen))

-- what the code returns for a suffix: the conversion, and the length of suffix and brace in bytes
abbrev pub ending_view : Result Suffix FormatErrorKind → Result (FormatConv × ℕ) FormatErrorKind
ending_view (Ok suffix) = Ok (conversion suffix, length (suffix_text suffix) + 1)
ending_view (Err kind) = Err kind

-- whether the first two bytes of the text are equal
abbrev pub is_doubled : Text → Bool
is_doubled [] = false
is_doubled (b ∷ []) = false
is_doubled (b ∷ c ∷ rest) = b == c

-- the capture of a name, by what follows it
abbrev pub with_name : Text → Result Suffix FormatErrorKind → Result Piece FormatErrorKind
with_name name (Ok suffix) = Ok (capture name suffix)
with_name name (Err kind) = Err kind

-- the number of bytes before the first brace or `!`
abbrev pub name_width : Text → ℕ
name_width text = prefix_len (λ b. not (ends_name b)) text

-- the number of bytes before the first brace
abbrev pub plain_width : Text → ℕ
plain_width text = prefix_len (λ b. not (is_brace b)) text

-- the first piece of a text that begins with `{`
abbrev pub open_piece : Text → Result Piece FormatErrorKind
open_piece text = cond (is_doubled text) (Ok (escape Open)) (with_name (take (name_width (drop 1 text)) (drop 1 text)) (ending (drop (name_width (drop 1 text)) (drop 1 text))))

-- the first piece of a text that begins with `}`
abbrev pub close_piece : Text → Result Piece FormatErrorKind
close_piece text = cond (is_doubled text) (Ok (escape Close)) (Err StandaloneClose)

-- the first piece of a text
unfoldable pub piece_at : Text → Result Piece FormatErrorKind
piece_at [] = Err UnmatchedOpen
piece_at (b ∷ rest) = cond (is_open b) (open_piece (b ∷ rest)) (cond (is_close b) (close_piece (b ∷ rest)) (Ok (plain (take (plain_width (b ∷ rest)) (b ∷ rest)))))

-- what the code returns for a piece at byte `at`: the token, and the length of the piece in bytes
abbrev pub token_found : ℕ → Result Piece FormatErrorKind → Result (Token × ℕ) FormatErrorKind
token_found at (Ok piece) = Ok (token_of at piece, length (written piece))
token_found at (Err kind) = Err kind

-- what the code returns, without where the token's parts lie in memory
abbrev pub found_view : Result (FormatToken × ℕ) FormatErrorKind → Result (Token × ℕ) FormatErrorKind
found_view (Ok found) = Ok (token_view found.0, found.1)
found_view (Err kind) = Err kind
