-- Texts that another text follows, so that each is lexed on after its faults by itself.
use Rattle.std.specs.Prelude.{◌≡◌, ◌<◌, ℕ, Bool, true, false, ◌&&◌, ◌||◌, not, ◌==◌, nat_eq, nat_lt, List, [], ◌∷◌, ◌++◌, map, length, drop, take, codes, Some, None, option_map}
use Rattle.std.specs.List.{ends_with, list_all}
use Rattle.std.specs.Str.{byte}
use Rattle.starlark_grammar.specs.Words.{Text}
use Rattle.starlark_grammar.specs.Tokens.{Dedent, Token, Lexeme, Spanned, moved, Fault}
use Rattle.starlark_grammar.specs.Margins.{is_blank, is_lf}
use Rattle.starlark_grammar.specs.Words.{language}
use Rattle.starlark_grammar.specs.Cuts.{is_faultless, is_layout, is_newline}
use Rattle.starlark_grammar.specs.Depths.{is_balanced, mode_after, is_outside}
use Rattle.starlark_grammar.specs.Reading.{History, history_after, nothing, outcome, read_after}
use Rattle.starlark_grammar.specs.Recovery.{Recovered, restart}

-- The fault of a text ends before the text does, and the text's last byte is an LF. So whatever follows the text, its
-- fault stays as it is.
unfoldable pub is_decided : Text → Spanned Fault → Bool
is_decided text fault = nat_lt fault.end (length text) && ends_with nat_eq text (codes "\n")

-- a margin was the last that was read, and no bracket or f-string is open; blocks may be
unfoldable pub is_between_lines : History → Bool
is_between_lines history = is_layout history.before && is_outside (mode_after history.tokens) && is_balanced history.tokens

-- A cut between lines: a text, after a history, without fault that ends with the LF of a logical, blank or comment line,
-- and leaves no bracket or f-string open. Content at the start of the next line closes its blocks.
unfoldable pub is_line_cut_after : History → Text → Bool
is_line_cut_after history text = is_faultless (read_after language history text).last && is_between_lines (history_after history text) && ends_with nat_eq text (codes "\n")

unfoldable pub is_line_cut : Text → Bool
is_line_cut = is_line_cut_after nothing

-- whether one of the lexemes is a `Newline`
abbrev pub has_newline : List Lexeme → Bool
has_newline [] = false
has_newline (lexeme ∷ lexemes) = is_newline lexeme.node || has_newline lexemes

-- Lexemes without the last `Newline`. Of a text without fault that is the closing one, which has no bytes; the
-- `Dedent`s after it stay.
abbrev pub without_last_newline : List Lexeme → List Lexeme
without_last_newline [] = []
without_last_newline (lexeme ∷ lexemes) = by (has_newline lexemes) (is_newline lexeme.node) (without_last_newline lexemes)
  where
    by : Bool → Bool → List Lexeme → List Lexeme
    by true first without = lexeme ∷ without
    by false true without = lexemes
    by false false without = lexeme ∷ lexemes

-- A text whose first line has content, and no margin before it.
unfoldable pub begins_plainly : Text → Bool
begins_plainly [] = false
begins_plainly (b ∷ bs) = not (is_blank b || is_lf b || b == byte "#")

-- what is found in two texts, the first one's without its closing `Newline`, and then the second one's, moved there
abbrev pub recovered_joined : ℕ → Recovered → Recovered → Recovered
recovered_joined len first second = record {
  lexemes = without_last_newline first.lexemes ++ map (moved len) second.lexemes;
  faults = first.faults ++ map (moved len) second.faults;
}

-- The outcome of a cut between lines, and after it that of a text that begins plainly: the first one's lexemes without
-- its closing `Newline`, and the second one's lexemes and fault, moved there.
abbrev pub LineCutsJoin : Type 0
LineCutsJoin = (first second : Text) → is_line_cut first ≡ true → begins_plainly second ≡ true
    → outcome (first ++ second) ≡ record {
      lexemes = without_last_newline (outcome first).lexemes ++ map (moved (length first)) (outcome second).lexemes;
      fault = option_map (moved (length first)) (outcome second).fault;
    }

-- Both together are a cut between lines exactly where the second one is.
abbrev pub LineCutsOfJoined : Type 0
LineCutsOfJoined = (first second : Text) → is_line_cut first ≡ true → begins_plainly second ≡ true → is_line_cut (first ++ second) ≡ is_line_cut second

abbrev pub is_dedent : Token → Bool
is_dedent Dedent = true
is_dedent token = false

-- lexemes that don't begin with a `Dedent`
abbrev pub begins_undented : List Lexeme → Bool
begins_undented [] = true
begins_undented (lexeme ∷ lexemes) = not (is_dedent lexeme.node)

-- Where a `Newline` of some bytes ends, and a line begins plainly, the text so far is a cut between lines, and has the
-- lexemes so far: those up to the `Newline`, and the `Dedent`s after it.
abbrev pub NewlinesCut : Type 0
NewlinesCut = (text : Text) (front : List Lexeme) (newline : Lexeme) (dedents more : List Lexeme)
    → (outcome text).lexemes ≡ front ++ (newline ∷ (dedents ++ more)) → is_newline newline.node ≡ true → newline.begin < newline.end
    → list_all (λ (lexeme : Lexeme). is_dedent lexeme.node) dedents ≡ true → begins_undented more ≡ true → begins_plainly (drop newline.end text) ≡ true
    → (is_line_cut (take newline.end text) ≡ true) × (without_last_newline (outcome (take newline.end text)).lexemes ≡ front ++ (newline ∷ dedents))

-- A text that ends with a `Newline` of some bytes is a cut between lines, and has no fault.
abbrev pub LastNewlineCuts : Type 0
LastNewlineCuts = (text : Text) (front : List Lexeme) (newline : Lexeme) (more : List Lexeme)
    → (outcome text).lexemes ≡ front ++ (newline ∷ more) → is_newline newline.node ≡ true → newline.begin < newline.end → newline.end ≡ length text
    → (is_line_cut text ≡ true) × ((outcome text).fault ≡ None)

-- A decided fault stays, and so do the lexemes before it and the line after it, whatever follows the text.
abbrev pub DecidedFaultsStay : Type 0
DecidedFaultsStay = (first second : Text) (fault : Spanned Fault) → (outcome first).fault ≡ Some fault → is_decided first fault ≡ true
    → (outcome (first ++ second) ≡ outcome first) × (restart (first ++ second) fault ≡ restart first fault)
