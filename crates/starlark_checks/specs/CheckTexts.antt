-- The codes and messages of checks. A code never changes, and is never used for another check.
use Rattle.std.specs.Prelude.{codes}
use Rattle.starlark_grammar.specs.Words.{Text}
use Rattle.starlark_checks.specs.declared.check.Check.{Check}
use Rattle.starlark_checks.specs.declared.check.Check.TheVariants.{NeverClosed, ClosesNothing, ClosesAnother, NumberBeforeWord, MergeMarker, FStringLineEnd}

-- the code of each check
unfoldable pub check_code : Check → Text
check_code NeverClosed = codes "SL101"
check_code ClosesNothing = codes "SL102"
check_code ClosesAnother = codes "SL103"
check_code NumberBeforeWord = codes "SL104"
check_code MergeMarker = codes "SL105"
check_code FStringLineEnd = codes "SL106"

-- the message of each check
unfoldable pub check_message : Check → Text
check_message NeverClosed = codes "bracket is never closed"
check_message ClosesNothing = codes "bracket closes nothing"
check_message ClosesAnother = codes "bracket closes one of another kind"
check_message NumberBeforeWord = codes "number right before a name, keyword or number"
check_message MergeMarker = codes "line of an unresolved merge"
check_message FStringLineEnd = codes "f-string with one quote has a line end in an expression"
