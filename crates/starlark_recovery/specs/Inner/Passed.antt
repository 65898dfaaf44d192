-- Faults that are passed.
use Rattle.std.specs.Prelude.{◌≡◌, ◌+◌, ◌==◌, ◌&&◌, ◌||◌, ℕ, Bool, true, false, not, codes, drop, string_bytes, Option, Some, None, ⊤}
use Rattle.std.specs.Option.{option_map}
use Rattle.std.specs.Str.{IsCharBoundary, bytes_eq}
use Rattle.starlark_grammar.specs.Margins.{begins_with_line_end}
use Rattle.starlark_base.specs.Sources.{SourceFile}
use Rattle.starlark_grammar.specs.Numbers.{integer_of, is_number}
use Rattle.starlark_grammar.specs.Tokens.{Fault, Identifier, Int, Spanned, Token, moved}
use Rattle.starlark_grammar.specs.Words.{Text}
use Rattle.starlark_lexemes.specs.Lexer.{search_reads}
use Rattle.starlark_grammar.specs.Recovery.{restart}
use Rattle.starlark_grammar.specs.KeptLines as grammar
use Rattle.starlark_recovery.specs.declared.literal_rests.LiteralRest.{LiteralRest}
use Rattle.starlark_recovery.specs.declared.passed_faults.Passed.{Passed}
use Rattle.starlark_errors.specs.Exceptions.{IsException}
use Rattle.starlark_words.specs.Inner.Reads.{AreReads}
use Rattle.starlark_token.specs.TokenViews.{TokenView, Whole}
use Rattle.starlark_token.specs.declared.lexeme_error.LexemeError.{LexemeError}
use Rattle.starlark_token.specs.declared.lexeme_error.LexemeError.TheVariants as error

-- the error is that of a tab
abbrev pub is_tab_error : LexemeError → Bool
is_tab_error error.InvalidTab = true
is_tab_error it = false

-- whether an error at byte `begin` of a text keeps its line
abbrev pub error_keeps_line : Text → (begin : ℕ) → LexemeError → (follows_comment : Bool) → Bool
error_keeps_line text begin (error.ReservedKeyword word) follows_comment = true
error_keeps_line text begin (error.StartsZero word) follows_comment = true
error_keeps_line text begin (error.InvalidInput character) follows_comment = not (bytes_eq (string_bytes character) (codes "}")) && not follows_comment
error_keeps_line text begin error.InvalidTab follows_comment = not (begin == 0 || begins_with_line_end (drop begin text))
error_keeps_line text begin it follows_comment = false

-- whether an error is a bad escape in a literal of text or bytes
abbrev pub is_bad_escape_error : LexemeError → Bool
is_bad_escape_error (error.InvalidEscapeSequence text) = not (bytes_eq (string_bytes text) (codes "\\"))
is_bad_escape_error it = false

-- where the error is that of an integer with a leading 0, its word is a number
abbrev pub IsNumber : LexemeError → Type 0
IsNumber (error.StartsZero word) = is_number 10 (string_bytes word) ≡ true
IsNumber it = ⊤

-- the token that stands for the word of an error
abbrev pub word_token : LexemeError → Option Token
word_token (error.ReservedKeyword word) = Some (Identifier (string_bytes word))
word_token (error.StartsZero word) = Some (Int (integer_of 10 (string_bytes word)))
word_token it = None

-- the lexeme that stands for it, so many bytes later
abbrev pub word_stand_in : (begin : ℕ) → ℕ × LexemeError × ℕ → Option (Spanned TokenView)
word_stand_in begin fault = option_map (λ (token : Token). record { begin = begin + fault.0; node = Whole token; end = begin + fault.2 }) (word_token fault.1)

-- whether an error is an unfinished literal
abbrev pub is_unfinished_error : LexemeError → Bool
is_unfinished_error error.UnfinishedStringLiteral = true
is_unfinished_error it = false

-- what is left of a literal, as the grammar sees it
abbrev pub rest_view : LiteralRest → grammar.LiteralRest
rest_view rest = record { len = rest.len; is_closed = rest.is_closed }

-- the fault, up to another offset
abbrev pub up_to : ℕ → Spanned Fault → Spanned Fault
up_to end fault = record fault { end = end }

-- a fault of a text's part from byte `begin` on was passed, up to byte `end` of the part: its exception is moved, and lexing
-- goes on after the line there, which was searched for
pub record HasPassed (file : SourceFile) (text : Text) (begin : ℕ) (fault : Spanned Fault) (end : ℕ) (passed : Passed) : Type 0 where
  pub exception : IsException file (moved begin fault) passed.fault
  pub from : passed.begin ≡ begin + restart (drop begin text) (up_to end fault)
  pub boundary : IsCharBoundary text passed.begin
  pub reads : AreReads 1 (search_reads (drop begin text) (up_to end fault)) 0 passed.reads
