-- What the laws of joined and cut texts and of their line ends say.
use Rattle.std.specs.Prelude.{◌≡◌, ◌<◌, ◌↔◌, ◌⊎◌, ℕ, true, false, List, ◌++◌, length, take, None, option_map, nat_eq, map}
use Rattle.std.specs.List.{list_any}
use Rattle.std.specs.Str.{byte, IsUtf8}
use Rattle.starlark_grammar.specs.Words.{Text, Table, language}
use Rattle.starlark_grammar.specs.Tokens.{Token, Spanned, Lexeme, moved, Fault}
use Rattle.starlark_grammar.specs.Margins.{margin_of}
use Rattle.starlark_grammar.specs.Pieces.{Piece, Stands, Fails}
use Rattle.starlark_grammar.specs.Reading.{nothing, next_step, read, outcome}
use Rattle.starlark_grammar.specs.LineEnds.{crlf_form, no_raw_newline}
use Rattle.starlark_grammar.specs.Cuts.{is_clean_cut, is_kept_cut, without_closing, joined, tabbed}

-- the first margin of a text stands
abbrev pub HasFirstMargin : Table → Text → Type 0
HasFirstMargin table text = (piece : Piece) × (next_step table nothing text ≡ Stands piece)

-- The outcome of two texts joined is the joined list, and the second text's fault, moved along.
abbrev pub Join : Text → Text → Type 0
Join first second = outcome (first ++ second) ≡ record { lexemes = joined (length first) (outcome first).lexemes (outcome second).lexemes; fault = option_map (moved (length first)) (outcome second).fault }

-- So it is for a clean cut and a text whose first margin has no fault, …
abbrev pub CutsJoin : Type 0
CutsJoin = (first second : Text) → is_clean_cut first ≡ true → HasFirstMargin language second → Join first second

-- the first margin of a text is a fault
abbrev pub FirstMarginFails : Table → Text → Type 0
FirstMarginFails table text = (fault : Spanned Fault) × (next_step table nothing text ≡ Fails fault)

-- a text has no fault, or one that isn't its first margin's
abbrev pub FailsLater : Text → Type 0
FailsLater text = ((outcome text).fault ≡ None) ⊎ (FirstMarginFails language text → ⊥)

-- … and for a clean cut and a text that has no fault, or one that isn't its first margin's.
abbrev pub LaterFaultsJoin : Type 0
LaterFaultsJoin = (first second : Text) → is_clean_cut first ≡ true → FailsLater second → Join first second

-- Where a text is a clean cut, what was joined has a fault exactly where the text after it has one, …
abbrev pub FaultsJoin : Type 0
FaultsJoin = (first second : Text) → is_clean_cut first ≡ true → ((outcome (first ++ second)).fault ≡ None) ↔ ((outcome second).fault ≡ None)

-- … and is a clean cut exactly where the text after it is one, if that isn't empty.
abbrev pub CutsOfJoined : Type 0
CutsOfJoined = (first second : Text) → is_clean_cut first ≡ true → 0 < length second → is_clean_cut (first ++ second) ≡ is_clean_cut second

-- What a clean cut and a text after it become where that text's first margin has a fault.
abbrev pub TabsAfterCuts : Type 0
TabsAfterCuts = (first second : Text) (fault : Spanned Fault) → is_clean_cut first ≡ true → next_step language nothing second ≡ Fails fault
    → outcome (first ++ second) ≡ tabbed (length first) (without_closing (outcome first).lexemes) (margin_of second).comments

-- At a kept cut the lexemes of a text begin with those of the text before it, without its closing `Newline`.
abbrev pub KeptCutsKeep : Type 0
KeptCutsKeep = (text : Text) (at : ℕ) → is_kept_cut text at ≡ true → (more : List Lexeme) × ((outcome text).lexemes ≡ without_closing (outcome (take at text)).lexemes ++ more)

abbrev pub tokens_of : Text → List Token
tokens_of text = map (λ (lexeme : Lexeme). lexeme.node) (outcome text).lexemes

-- With each LF written as CR LF, a UTF-8 text without fault and without CR keeps its tokens, and has no fault. No raw
-- literal and no raw f-string text may have a backslash right before an LF.
abbrev pub CrlfKeepsTokens : Type 0
CrlfKeepsTokens = (text : Text) → IsUtf8 text → (outcome text).fault ≡ None → list_any (nat_eq (byte "\r")) text ≡ false → no_raw_newline nothing text (read language text).pieces ≡ true
    → ((outcome (crlf_form text)).fault ≡ None) × (tokens_of (crlf_form text) ≡ tokens_of text)
