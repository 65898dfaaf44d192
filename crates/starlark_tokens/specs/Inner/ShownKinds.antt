-- Where the fault of an error is shown, its code, and what to do about it.
use Rattle.std.specs.Prelude.{ℕ, Option, Some, None, [], Bool, true, false, ◌&&◌, not, string_bytes}
use Rattle.starlark_base.specs.Places.{Text}
use Rattle.std.specs.Option.{option_map}
use Rattle.starlark_token.specs.FaultCodes.{error_code}
use Rattle.starlark_token.specs.Lexemes.{fault_view}
use Rattle.starlark_tokens.specs.ToldFaults.FaultHelps.{fault_help}
use Rattle.starlark_tokens.specs.declared.told_faults.shown_places.Shown.{Shown}
use Rattle.starlark_tokens.specs.declared.told_faults.shown_places.Shown.TheVariants.{Begin, Tab, LastLine}
use Rattle.starlark_errors.specs.declared.error.kinds.ErrorKind.{ErrorKind}
use Rattle.starlark_errors.specs.declared.error.kinds.ErrorKind.TheVariants.{Parser}
use Rattle.starlark_errors.specs.declared.error.kinds.ParserMessage.TheVariants.{Lexeme}
use Rattle.starlark_token.specs.declared.lexeme_error.LexemeError.{LexemeError}
use Rattle.starlark_token.specs.declared.lexeme_error.LexemeError.TheVariants.{Indentation, InvalidTab, ReservedKeyword}
use Rattle.starlark_tokens.specs.ToldFaults.Filters.{is_name, tells}
use Rattle.starlark_tokens.specs.ToldFaults.IgnoreComments.{is_ignored}
use Rattle.starlark_tokens.specs.ToldFaults.Problems.{is_invalid}
use Rattle.starlark_tokens.specs.ToldFaults.ShownPlaces.{shown_at}
use Rattle.starlark_tokens.specs.declared.told_faults.filters.Filter.{Filter}

-- the fault of an indentation is shown on its last line, that of a tab at the tab
abbrev pub shown_of_kind : ErrorKind → Shown
shown_of_kind (Parser (Lexeme Indentation)) = LastLine
shown_of_kind (Parser (Lexeme InvalidTab)) = Tab
shown_of_kind kind = Begin

abbrev pub or_empty : Option Text → Text
or_empty None = []
or_empty (Some code) = code

-- the code of a fault; empty for an error that is none
abbrev pub code_of_kind : ErrorKind → Text
code_of_kind (Parser (Lexeme error)) = or_empty (error_code error)
code_of_kind kind = []

-- an error is of a reserved word that is a name
abbrev pub is_error_of_name : Filter → LexemeError → Bool
is_error_of_name which (ReservedKeyword word) = is_name which (string_bytes word)
is_error_of_name which error = false

-- the fault of an error is told
abbrev pub tells_error : Filter → LexemeError → Bool
tells_error which error = tells which (or_empty (error_code error)) && not (is_error_of_name which error)

abbrev pub tells_kind : Filter → ErrorKind → Bool
tells_kind which (Parser (Lexeme error)) = tells_error which error
tells_kind which kind = true

-- the fault of an error between two offsets of a text is told
abbrev pub tells_error_at : Filter → Text → ErrorKind → (begin end : ℕ) → Bool
tells_error_at which text kind begin end =
    tells_kind which kind && not (is_ignored text (shown_at text (shown_of_kind kind) begin end) (code_of_kind kind))

abbrev pub or_false : Option Bool → Bool
or_false None = false
or_false (Some is) = is

-- an error is of a character that begins no token
abbrev pub is_invalid_kind : ErrorKind → Bool
is_invalid_kind (Parser (Lexeme error)) = or_false (option_map is_invalid (fault_view error))
is_invalid_kind kind = false

-- what to do about a fault; empty for an error that is none
abbrev pub help_of_error : LexemeError → Text
help_of_error error = or_empty (option_map fault_help (fault_view error))

abbrev pub help_of_kind : ErrorKind → Text
help_of_kind (Parser (Lexeme error)) = help_of_error error
help_of_kind kind = []
