-- The piece at a reader's offset is in the text.
use Rattle.std.proofs.Common.{rules, ◌≡◌, ℕ, ◌+◌, ◌≤◌, false, length, drop, refl, ap, sym, ◌∙◌, arith}
use Rattle.std.proofs.lemmas.List.{length-drop}
use Rattle.starlark_grammar.specs.Words.{Text, language}
use Rattle.starlark_grammar.specs.Tokens as grammar
use Rattle.starlark_grammar.specs.Tokens.{Fault, Spanned, moved}
use Rattle.starlark_reader.specs.Inner.Nesting.{is_fstring_start}
use Rattle.starlark_token.specs.Lexemes.{lexeme_view, shown, shown_lexeme}
use Rattle.starlark_token.specs.TokenViews.{Whole, token_view}
use Rattle.starlark_token.specs.declared.tokens.Token.{Token}
use Rattle.starlark_grammar.specs.Pieces.{Before, Piece, Stands, Fails}
use Rattle.starlark_grammar.specs.Reading.{History, history_after, read_len}
use Rattle.starlark_reader.specs.Inner.Reader.{IsStateAfter, Origin, before_view, step_here}
use Rattle.starlark_reader.specs.declared.reader.Before as code
use Rattle.starlark_reader.specs.declared.reader.Before.TheVariants as sort
use Rattle.starlark_reader.specs.declared.reader.Reader.{Reader}
use Rattle.starlark_grammar.proofs.Reading.Steps.{is_nothing, least_len}
use Rattle.starlark_grammar.proofs.Reading.Readings.{piece_fits, fault_fits}

-- something was read before
pub after_some : (last : code.Before) (before : Before) → before_view last ≡ before → (is_nothing before ≡ false) × (least_len before ≡ 1)
after_some last before h = (ap is_nothing (sym h) ∙ begun last, ap least_len (sym h) ∙ one last)
  where
    begun : (last : code.Before) → is_nothing (before_view last) ≡ false
    begun sort.Layout = refl
    begun last = refl

    one : (last : code.Before) → least_len (before_view last) ≡ 1
    one sort.Layout = refl
    one last = refl

-- two readers differ at most in stage, pending lexemes and reads
pub record IsHere (old new : Reader) : Type 0 where
  pub at : new.at ≡ old.at
  pub nesting : new.nesting ≡ old.nesting
  pub levels : new.levels ≡ old.levels
  pub before : new.before ≡ old.before

pub kept_here : {origin : Origin} → (text : Text) (history : History) (old new : Reader) → IsHere old new → IsStateAfter origin text history old → IsStateAfter origin text history new
kept_here text history old new here kept = record {
  nesting = rw here.nesting kept.nesting;
  levels = rw here.levels kept.levels;
  before = rw here.before kept.before;
  inside = rw here.at kept.inside;
  boundary = rw here.at kept.boundary;
  few = rw (here.nesting, here.at) kept.few;
  onward = ap (λ at. history_after history (drop at text)) here.at ∙ kept.onward;
  reach = ap (λ at. at + read_len history (drop at text)) here.at ∙ kept.reach;
  read = λ start. rw here.at (kept.read start);
}

-- a piece here is not empty, and is in the text
pub piece_here : {origin : Origin} → (text : Text) (history : History) (reader : Reader) (piece : Piece) → IsStateAfter origin text history reader → step_here text history reader ≡ Stands piece → (1 ≤ piece.len) × (reader.at + piece.len ≤ length text)
piece_here text history reader piece kept stands =
    let fits = piece_fits language history (drop reader.at text) piece stands in
    (omega (arith, (after_some reader.before history.before kept.before).1, fits.some), omega (arith, fits.inside, length-drop reader.at text, kept.inside))

-- a fault here is in the text
pub fault_here : {origin : Origin} → (text : Text) (history : History) (reader : Reader) (fault : Spanned Fault) → IsStateAfter origin text history reader → step_here text history reader ≡ Fails fault → (fault.begin ≤ fault.end) × (reader.at + fault.end ≤ length text)
fault_here text history reader fault kept fails = search (rules, fault_fits, length-drop)

-- a token that begins no f-string is shown as it is
pub shown_own : (node : grammar.Token) → is_fstring_start node ≡ false → shown node ≡ node
shown_own (grammar.FStringStart opening) h = cc
shown_own node h = refl

-- a token of the code that is one of the grammar, moved by `at` bytes
pub shown_at : (at begin end : ℕ) (token : Token) (node : grammar.Token) → token_view token ≡ Whole node → is_fstring_start node ≡ false
    → lexeme_view (at + begin, token, at + end) ≡ shown_lexeme (moved at (record { begin = begin; node = node; end = end }))
shown_at at begin end token node view own = rw (view, shown_own node own) refl

-- a token of the code that is one of the grammar, from byte `at` on
pub shown_here : (at end : ℕ) (token : Token) (node : grammar.Token) → token_view token ≡ Whole node → is_fstring_start node ≡ false
    → lexeme_view (at, token, at + end) ≡ shown_lexeme (moved at (record { begin = 0; node = node; end = end }))
shown_here at end token node view own =
    let none : at ≡ at + 0 = omega arith in
    ap (λ n. lexeme_view (n, token, at + end)) none ∙ shown_at at 0 end token node view own
