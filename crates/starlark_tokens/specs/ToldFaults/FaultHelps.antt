-- What to do about each fault, and about what a check finds, in a line.
use Rattle.std.specs.List.{list_any}
use Rattle.std.specs.Prelude.{ℕ, Bool, List, [], ◌∷◌, codes, encode_utf8, if◌then◌else◌}
use Rattle.std.specs.Str.{bytes_eq}
use Rattle.starlark_base.specs.Places.{Text}
use Rattle.starlark_checks.specs.declared.check.Check.{Check}
use Rattle.starlark_checks.specs.declared.check.Check.TheVariants.{NeverClosed, ClosesNothing, ClosesAnother, NumberBeforeWord, MergeMarker, FStringLineEnd}
use Rattle.starlark_grammar.specs.Tokens.{Fault, Indentation, InvalidInput, InvalidTab, UnfinishedStringLiteral, InvalidEscapeSequence, EmptyEscapeSequence, ReservedKeyword, StartsZero, UnfinishedFStringExpression}

-- a text is a character
abbrev pub is_character : Text → ℕ → Bool
is_character text character = bytes_eq text (encode_utf8 character)

-- a text is one of some characters
abbrev pub is_any_character : List ℕ → Text → Bool
is_any_character characters text = list_any (is_character text) characters

-- what to do about a text that begins no token: some characters stand for those of a program
unfoldable pub input_help : Text → Text
input_help text =
    if is_any_character (0x201C ∷ 0x201D ∷ 0x201E ∷ []) text then codes "write \" in place of a typographic quote"
    else (if is_any_character (0x2018 ∷ 0x2019 ∷ 0x201A ∷ []) text then codes "write ' in place of a typographic quote"
    else (if is_any_character (0x2013 ∷ 0x2014 ∷ 0x2212 ∷ []) text then codes "write - in place of a dash"
    else (if is_character text 0xA0 then codes "write a space: this is U+00A0 NO-BREAK SPACE"
    else (if is_character text 0xFEFF then codes "remove it: this is U+FEFF BYTE ORDER MARK"
    else (if is_character text 0x60 then codes "write quotes: Starlark has no backticks"
    else codes "remove it: only strings and comments may have it")))))

unfoldable pub fault_help : Fault → Text
fault_help Indentation = codes "indent the line as the block that it belongs to"
fault_help (InvalidInput text) = input_help text
fault_help InvalidTab = codes "write spaces"
fault_help UnfinishedStringLiteral = codes "close the quotes, or use three for several lines"
fault_help (InvalidEscapeSequence text) = codes "write two backslashes, or r before the quotes"
fault_help EmptyEscapeSequence = codes "write two backslashes, and close the quotes"
fault_help (ReservedKeyword word) = codes "choose another name"
fault_help (StartsZero word) = codes "write 0o in front of an octal number, or leave the zeros out"
fault_help UnfinishedFStringExpression = codes "close the expression with `}`, or write `{{` for a brace that is text"

unfoldable pub check_help : Check → Text
check_help NeverClosed = codes "close it, or remove it"
check_help ClosesNothing = codes "remove it, or open one before it"
check_help ClosesAnother = codes "close the open bracket by one of its kind"
check_help NumberBeforeWord = codes "write a space after the number, or mend it"
check_help MergeMarker = codes "keep one side of the merge, and remove its marker lines"
check_help FStringLineEnd = codes "close the expression on its line, or use three quotes"
