-- Kinds of errors, their printed forms, and their lines and columns.
use Rattle.std.specs.Prelude.{◌≡◌, ℕ, List, Option, Some, None, IfSome, string_bytes, ⊤}
use Rattle.starlark_base.specs.Diagnostics.{Diagnosed}
use Rattle.starlark_base.specs.DiagnosedTexts.{diagnosed_text}
use Rattle.starlark_base.specs.Places.{resolved}
use Rattle.starlark_base.specs.Sources.{Holds}
use Rattle.starlark_base.specs.declared.codemap.file_span.FileSpan.{FileSpan}
use Rattle.starlark_base.specs.declared.codemap.resolved.ResolvedFileSpan.{ResolvedFileSpan}
use Rattle.starlark_errors.specs.declared.error.kinds.ParserMessage.{ParserMessage}
use Rattle.starlark_errors.specs.declared.error.kinds.ParserMessage.TheVariants.{Lexeme, Text}
use Rattle.starlark_errors.specs.declared.error.kinds.ErrorKind.{ErrorKind}
use Rattle.starlark_errors.specs.declared.error.kinds.ErrorKind.TheVariants.{Parser, Other, Internal}
use Rattle.starlark_token.specs.FaultTexts.{fault_text}

-- an error of the lexer
abbrev pub IsFault : ErrorKind → Type 0
IsFault (Parser (Lexeme fault)) = ⊤
IsFault _ = ⊥

-- an internal error whose message is the text, if that is stated
abbrev pub IsInternal : ErrorKind → Option (List ℕ) → Type 0
IsInternal (Internal text) said = IfSome said (λ bytes. string_bytes text ≡ bytes)
IsInternal _ said = ⊥

-- the printed form of a lexer's or parser's message
unfoldable pub message_text : ParserMessage → List ℕ
message_text (Lexeme fault) = fault_text fault
message_text (Text text) = string_bytes text

-- the printed form of a kind: the message alone
unfoldable pub kind_text : ErrorKind → List ℕ
kind_text (Parser message) = message_text message
kind_text (Other text) = string_bytes text
kind_text (Internal text) = string_bytes text

-- the printed form of an error: the message, and the file span if it is known
abbrev pub error_text : Diagnosed ErrorKind → Option (List ℕ)
error_text error = diagnosed_text (Some (kind_text error.value)) error.span

-- the source holds the span, and the location is the file's name with the span's lines and columns
pub record IsResolved (place : FileSpan) (location : ResolvedFileSpan) : Type 0 where
  pub held : Holds place.file.source place.span
  pub file : string_bytes location.file ≡ place.file.filename
  pub span : location.span ≡ resolved place.file.source place.span

-- the span is known, and the location is its resolved form
abbrev pub IsLocation : Option FileSpan → ResolvedFileSpan → Type 0
IsLocation None location = ⊥
IsLocation (Some place) location = IsResolved place location

-- no span is known, or its source doesn't hold it
abbrev pub HasNoLocation : Option FileSpan → Type 0
HasNoLocation None = ⊤
HasNoLocation (Some place) = ¬ (Holds place.file.source place.span)
