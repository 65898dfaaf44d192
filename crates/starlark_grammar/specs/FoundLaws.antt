-- What the laws of all that is found in a text say.
use Rattle.std.specs.Prelude.{◌≡◌, ◌<◌, ◌≤◌, ◌⊎◌, Bool, true, false, not, List, [], ◌∷◌, ◌++◌, length, drop, take, Some, None, ⊤}
use Rattle.std.specs.List.{AllByRecursion, list_all}
use Rattle.starlark_grammar.specs.Words.{Text}
use Rattle.starlark_grammar.specs.ClosedTexts.{IsClosed, parted}
use Rattle.starlark_grammar.specs.Found.{Given, Item, Refused, faults_in, found, found_after, found_from, given, lexemes_in, passed}
use Rattle.starlark_grammar.specs.RecoveryLaws.{AreInOrder}
use Rattle.starlark_grammar.specs.KeptLines.{is_comment}
use Rattle.starlark_grammar.specs.Reading.{History, nothing, outcome, outcome_after}
use Rattle.starlark_grammar.specs.Joining.{begins_plainly, has_newline, is_dedent, recovered_joined, without_last_newline}
use Rattle.starlark_grammar.specs.Cuts.{is_newline}
use Rattle.starlark_grammar.specs.Tokens.{Fault, Lexeme, Spanned}

-- In a text without fault its lexemes are found, …
abbrev pub FaultlessFound : Type 0
FaultlessFound = (history : History) (text : Text) → (outcome_after history text).fault ≡ None → found_after history text ≡ given (outcome_after history text).lexemes

-- … in any other these, the fault, what stands for it, and what is found in the rest after it.
abbrev pub FoundAfterFaults : Type 0
FoundAfterFaults = (history : History) (text : Text) (fault : Spanned Fault) → (outcome_after history text).fault ≡ Some fault
    → found_after history text ≡ given (outcome_after history text).lexemes ++ found_from text fault (passed history text fault) found_after

-- After no history that is a text's outcome.
abbrev pub OutcomeAfterNothing : Type 0
OutcomeAfterNothing = (text : Text) → outcome_after nothing text ≡ outcome text

-- In a closed text and one after it that begins plainly is found what is found in each.
abbrev pub FoundJoins : Type 0
FoundJoins = (first second : Text) → IsClosed first → begins_plainly second ≡ true → parted (found (first ++ second)) ≡ recovered_joined (length first) (parted (found first)) (parted (found second))

-- Both together are a closed text where each is one.
abbrev pub ClosedJoin : Type 0
ClosedJoin = (first second : Text) → IsClosed first → begins_plainly second ≡ true → IsClosed second → IsClosed (first ++ second)

-- All lexemes that are found in a text lie in it, in order, …
abbrev pub FoundLexemesInOrder : Type 0
FoundLexemesInOrder = (text : Text) → AreInOrder 0 (lexemes_in (found text)) (length text)

-- … and so do all faults.
abbrev pub FoundFaultsInOrder : Type 0
FoundFaultsInOrder = (text : Text) → AreInOrder 0 (faults_in (found text)) (length text)

-- a lexeme ends before a fault, unless it is a comment, which may be in the margin that has the fault
abbrev pub EndsBefore : Lexeme → Spanned Fault → Type 0
EndsBefore lexeme fault = is_comment lexeme.node ≡ false → lexeme.end ≤ fault.begin

-- a lexeme begins after a fault, unless it stands for the fault: then it has all of the fault's bytes
abbrev pub BeginsAfter : Spanned Fault → Lexeme → Type 0
BeginsAfter fault lexeme = (fault.end ≤ lexeme.begin) ⊎ ((lexeme.begin ≤ fault.begin) × (fault.end ≤ lexeme.end))

-- each lexeme ends before all later faults, and begins after all earlier ones or stands for them
abbrev pub AreApart : List Item → Type 0
AreApart [] = ⊤
AreApart (Given lexeme ∷ items) = AllByRecursion (EndsBefore lexeme) (faults_in items) × AreApart items
AreApart (Refused fault ∷ items) = AllByRecursion (BeginsAfter fault) (lexemes_in items) × AreApart items

-- No lexeme that is found has a part of a fault's bytes, but for comments.
abbrev pub FoundApart : Type 0
FoundApart = (text : Text) → AreApart (found text)

-- A `Newline` of some bytes that is found in a text, and after which a line begins plainly, closes the text up to there, …
abbrev pub NewlinesClose : Type 0
NewlinesClose = (text : Text) (front : List Item) (newline : Lexeme) (more : List Item) → found text ≡ front ++ (Given newline ∷ more)
    → is_newline newline.node ≡ true → newline.begin < newline.end → begins_plainly (drop newline.end text) ≡ true → IsClosed (take newline.end text)

-- … and one at the end of a text closes it.
abbrev pub LastNewlinesClose : Type 0
LastNewlinesClose = (text : Text) (front : List Item) (newline : Lexeme) (more : List Item) → found text ≡ front ++ (Given newline ∷ more)
    → is_newline newline.node ≡ true → newline.begin < newline.end → newline.end ≡ length text → IsClosed text

-- items that don't begin with a `Dedent`
abbrev pub begin_undented : List Item → Bool
begin_undented [] = true
begin_undented (Given lexeme ∷ items) = not (is_dedent lexeme.node)
begin_undented (Refused fault ∷ items) = true

-- In the text up to such a `Newline` is found what is found there, and then the `Dedent`s after it, with the closing `Newline`
-- that it has.
abbrev pub NewlinesCutFound : Type 0
NewlinesCutFound = (text : Text) (front : List Item) (newline : Lexeme) (dedents : List Lexeme) (more : List Item) → found text ≡ front ++ (Given newline ∷ (given dedents ++ more))
    → is_newline newline.node ≡ true → newline.begin < newline.end → list_all (λ (lexeme : Lexeme). is_dedent lexeme.node) dedents ≡ true → begin_undented more ≡ true → begins_plainly (drop newline.end text) ≡ true
    → (closing : List Lexeme) × (found (take newline.end text) ≡ front ++ (Given newline ∷ given closing)) × (has_newline closing ≡ true) × (without_last_newline closing ≡ dedents)
