-- The rules of a document of SARIF: what each code means, and what to do about it.
use Rattle.std.specs.Prelude.{List, [], ◌∷◌, ◌++◌, codes}
use Rattle.starlark_base.specs.Places.{Text}
use Rattle.starlark_checks.specs.CheckTexts.{check_code, check_message}
use Rattle.starlark_checks.specs.declared.check.Check.{Check}
use Rattle.starlark_checks.specs.declared.check.Check.TheVariants.{NeverClosed, ClosesNothing, ClosesAnother, NumberBeforeWord, MergeMarker, FStringLineEnd}
use Rattle.starlark_grammar.specs.Tokens.{Fault, Indentation, InvalidInput, InvalidTab, UnfinishedStringLiteral, InvalidEscapeSequence, EmptyEscapeSequence, ReservedKeyword, StartsZero, UnfinishedFStringExpression}
use Rattle.starlark_token.specs.FaultCodes.{fault_code}
use Rattle.starlark_tokens.specs.OutputFormats.JsonStrings.{json_string}
use Rattle.starlark_tokens.specs.ToldFaults.FaultHelps.{check_help, fault_help}

-- a rule as an object of JSON, on lines of its own
unfoldable pub rule : (code help name said meaning : Text) → Text
rule code help name said meaning =
    codes "\n{\"id\":" ++ (json_string code ++ (codes ",\"name\":" ++ (json_string name
    ++ (codes ",\"shortDescription\":{\"text\":" ++ (json_string said ++ (codes "},\n\"fullDescription\":{\"text\":" ++ (json_string meaning
    ++ (codes "},\n\"help\":{\"text\":" ++ (json_string help ++ codes "}}")))))))))

-- the rule of a fault: its name, what its message begins with, and what it means
abbrev pub fault_rule : Fault → (name said meaning : Text) → Text
fault_rule fault = rule (fault_code fault) (fault_help fault)

-- the rule of a check: its name, and what it finds
abbrev pub check_rule : Check → (name meaning : Text) → Text
check_rule check name = rule (check_code check) (check_help check) name (check_message check)

-- the rules of all faults, and then those of all checks
unfoldable pub rules : List Text
rules =
    fault_rule Indentation (codes "Indentation") (codes "incorrect indentation")
    (codes "A line closes a block, but its indentation is that of no block which is open.")
    ∷ fault_rule (InvalidInput []) (codes "InvalidInput") (codes "invalid input")
    (codes "A character begins no token outside of strings and comments.")
    ∷ fault_rule InvalidTab (codes "InvalidTab") (codes "tabs are not allowed")
    (codes "A tab is outside of strings and comments.")
    ∷ fault_rule UnfinishedStringLiteral (codes "UnfinishedStringLiteral") (codes "unfinished string literal")
    (codes "The quotes of a string are not closed on their line.")
    ∷ fault_rule (InvalidEscapeSequence []) (codes "InvalidEscapeSequence") (codes "invalid string escape sequence")
    (codes "An escape in a string has too few digits, or means no character.")
    ∷ fault_rule EmptyEscapeSequence (codes "EmptyEscapeSequence") (codes "missing string escape sequence")
    (codes "The file ends right after a backslash in a string.")
    ∷ fault_rule (ReservedKeyword []) (codes "ReservedKeyword") (codes "cannot use reserved keyword")
    (codes "A word is used that is kept for later versions of Starlark.")
    ∷ fault_rule (StartsZero []) (codes "StartsZero") (codes "integer cannot have leading 0")
    (codes "A decimal integer of several digits begins with 0.")
    ∷ fault_rule UnfinishedFStringExpression (codes "UnfinishedFStringExpression") (codes "f-string expression is missing closing brace")
    (codes "An expression in an f-string is not closed by a brace.")
    ∷ check_rule NeverClosed (codes "NeverClosed") (codes "A bracket is still open where the file ends.")
    ∷ check_rule ClosesNothing (codes "ClosesNothing") (codes "A bracket closes nothing that is open.")
    ∷ check_rule ClosesAnother (codes "ClosesAnother") (codes "The innermost open bracket is of another kind than the one that closes it.")
    ∷ check_rule NumberBeforeWord (codes "NumberBeforeWord") (codes "A name, keyword or number begins where a number ends.")
    ∷ check_rule MergeMarker (codes "MergeMarker") (codes "A line begins with a marker that git writes into a merge.")
    ∷ check_rule FStringLineEnd (codes "FStringLineEnd") (codes "An expression of an f-string with one quote goes on after the end of its line.")
    ∷ []
