-- What the code stores of the tokens so far, as the grammar sees it.
use Rattle.std.specs.Prelude.{◌≡◌, ℕ, ◌+◌, ◌-◌, ◌<◌, ◌^◌, Bool, true, false, cond, List, count_by, option_map, reverse}
use Rattle.std.specs.List.{slice_get}
use Rattle.starlark_grammar.specs.declared.class.Terminal.TheVariants as terminal
use Rattle.starlark_grammar.specs.Tokens as grammar
use Rattle.starlark_grammar.specs.Depths.{Mode, Outside, InText, AtTop, Deeper, Shape, Round, Square, Curly, is_opening, is_closing, is_any_opening, is_any_closing, braces, depth, open_fstring}
use Rattle.starlark_grammar.specs.Inner.Openings.{opening_view}
use Rattle.starlark_token.specs.TokenViews.{TokenView, Whole}
use Rattle.starlark_reader.specs.declared.nesting.LexerMode.{LexerMode}
use Rattle.starlark_reader.specs.declared.nesting.LexerMode.TheVariants as modes
use Rattle.starlark_reader.specs.declared.nesting.Nesting.{Nesting}
use Rattle.starlark_reader.specs.declared.nesting.OpenFString.{OpenFString}

-- whether a token is the start of an f-string
abbrev pub is_fstring_start : grammar.Token → Bool
is_fstring_start (grammar.FStringStart opening) = true
is_fstring_start token = false

-- the mode of the grammar
abbrev pub mode_view : LexerMode → Mode
mode_view modes.Outside = Outside
mode_view (modes.InText opening) = InText (opening_view opening)
mode_view modes.AtTop = AtTop
mode_view modes.Deeper = Deeper

-- whether a token changes neither brackets nor f-strings
abbrev pub keeps_nesting : TokenView → Bool
keeps_nesting (Whole (grammar.Word terminal.OpeningRound)) = false
keeps_nesting (Whole (grammar.Word terminal.OpeningSquare)) = false
keeps_nesting (Whole (grammar.Word terminal.OpeningCurly)) = false
keeps_nesting (Whole (grammar.Word terminal.ClosingRound)) = false
keeps_nesting (Whole (grammar.Word terminal.ClosingSquare)) = false
keeps_nesting (Whole (grammar.Word terminal.ClosingCurly)) = false
keeps_nesting (Whole (grammar.FStringStart opening)) = false
keeps_nesting (Whole grammar.FStringExprStart) = false
keeps_nesting (Whole grammar.FStringExprEnd) = false
keeps_nesting (Whole grammar.FStringEnd) = false
keeps_nesting view = true

-- whether code comes after a token that is in code
abbrev pub keeps_code : TokenView → Bool
keeps_code (Whole (grammar.Word terminal.ClosingCurly)) = false
keeps_code (Whole (grammar.FStringStart opening)) = false
keeps_code (Whole grammar.FStringExprStart) = false
keeps_code (Whole grammar.FStringExprEnd) = false
keeps_code (Whole grammar.FStringEnd) = false
keeps_code view = true

-- the number of brackets so far, as the code counts them
abbrev pub bracket_count : Nesting → ℕ
bracket_count nesting = nesting.opened + nesting.closed

-- the same f-strings are open, and as many brackets were opened and closed
abbrev pub IsUnchanged : Nesting → Nesting → Type 0
IsUnchanged old new = (new.fstrings.items ≡ old.fstrings.items) × (new.opened ≡ old.opened) × (new.closed ≡ old.closed)

-- an open f-string: its opening, and its depths in braces, round and square brackets
pub record FStringDepths : Type 0 where
  pub opening : grammar.Opening
  pub braces : ℕ
  pub rounds : ℕ
  pub squares : ℕ

-- an open f-string, as the code counts it
abbrev pub fstring_view : OpenFString → FStringDepths
fstring_view fstring = record { opening = opening_view fstring.opening; braces = fstring.braces; rounds = fstring.rounds; squares = fstring.squares }

-- how many brackets of a shape a token opens, and closes
abbrev pub opens : Shape → grammar.Token → ℕ
opens shape token = cond (is_opening shape token) 1 0

abbrev pub closes : Shape → grammar.Token → ℕ
closes shape token = cond (is_closing shape token) 1 0

-- the depth in a shape of bracket, one token further
abbrev pub depth_after : Shape → grammar.Token → ℕ → ℕ
depth_after shape token n = (opens shape token + n) - closes shape token

-- the depth in braces of an expression, one token further
abbrev pub braces_after : grammar.Token → ℕ → ℕ
braces_after grammar.FStringExprStart n = 1
braces_after grammar.FStringExprEnd n = 0
braces_after token n = depth_after Curly token n

-- an open f-string, one of its tokens further
abbrev pub fstring_after : TokenView → FStringDepths → FStringDepths
fstring_after (Whole token) fstring = record { opening = fstring.opening; braces = braces_after token fstring.braces; rounds = depth_after Round token fstring.rounds; squares = depth_after Square token fstring.squares }
fstring_after view fstring = fstring

-- each count has room for one more
pub record HasRoom (fstring : OpenFString) : Type 0 where
  pub braces : fstring.braces + 1 < 2 ^ 64
  pub rounds : fstring.rounds + 1 < 2 ^ 64
  pub squares : fstring.squares + 1 < 2 ^ 64

-- an open f-string, by its opening and its own tokens
unfoldable pub fstring_of : grammar.Opening × List grammar.Token → FStringDepths
fstring_of found = record { opening = found.0; braces = braces found.1; rounds = depth Round found.1; squares = depth Square found.1 }

-- the code has the open f-strings of the tokens so far, which are listed last first, and the
-- numbers of their opened and closed brackets
pub record Represents (tokens : List grammar.Token) (nesting : Nesting) : Type 0 where
  pub fstrings : (n : ℕ) → option_map fstring_view (slice_get (reverse nesting.fstrings.items) n) ≡ option_map fstring_of (open_fstring n tokens)
  pub opened : nesting.opened ≡ count_by is_any_opening tokens
  pub closed : nesting.closed ≡ count_by is_any_closing tokens
