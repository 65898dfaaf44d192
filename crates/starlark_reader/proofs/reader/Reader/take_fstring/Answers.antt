use Rattle.std.proofs.Common.{◌≡◌, ℕ, ◌+◌, ◌≤◌, true, false, add-zero, ap, append-nil, arith, drop, length, refl, rules, sym, ◌∙◌, Some}
use Rattle.starlark_grammar.specs.Front.{language_front}
use Rattle.starlark_grammar.specs.Inner.Openings.{opening_view}
use Rattle.starlark_grammar.specs.Margins.{open_widths}
use Rattle.starlark_grammar.specs.Pieces.{more_quotes, opening_of}
use Rattle.starlark_grammar.specs.Pieces as grammar
use Rattle.starlark_grammar.specs.Reading.{History}
use Rattle.starlark_grammar.specs.Tokens.{FStringStart, Lexeme, moved}
use Rattle.starlark_grammar.specs.Tokens as Tokens
use Rattle.starlark_grammar.specs.declared.class.Class.TheVariants as class
use Rattle.starlark_grammar.specs.declared.class.LiteralKind.TheVariants as kind
use Rattle.starlark_grammar.specs.declared.class.Opening.{Opening}
use Rattle.starlark_token.specs.Lexemes.{lexeme_view, shown_lexeme}
use Rattle.starlark_token.specs.TokenViews.{fstring_quote_view, token_view}
use Rattle.starlark_token.specs.declared.fstring_style.FStringQuote.{FStringQuote}
use Rattle.starlark_token.specs.declared.tokens.Token.TheVariants as token
use Rattle.starlark_reader.specs.Inner.Reader.{IsStateAfter, Origin, step_here}
use Rattle.starlark_reader.proofs.TakenMargins.PendingLexemes.{after_error, hands_one}
use Rattle.starlark_reader.proofs.TakenPieces.CodePlaces.{word_cut}
use Rattle.starlark_reader.proofs.TakenPieces.NextLexeme.{onward_something}
use Rattle.starlark_reader.proofs.TakenPieces.PieceTaken.{fstring_step}
use Rattle.starlark_reader.proofs.TakenPieces.SameTexts.{state_here, taken_here}
use Rattle.starlark_reader.proofs.TakenPieces.Taken.{piece_inside, took}
use Rattle.starlark_reader.proofs.reader.Reader.take_fstring.Goals.{After-begin_fstring, then-opening, else-opening}
use Rattle.starlark_reader.proofs.reader.Reader.take_fstring.Goals as goal

pub range_from-requires : goal.range_from-requires
range_from-requires c = λ some.
    word_cut c.range_from-rest.result.now (class.Opener kind.FString c.args.is_raw c.args.quote) c.args.len c.range_from-rest.utf8 (ap language_front c.range_from-rest.ensures.value ∙ sym c.requires.stands.front)

-- the start of an f-string is as long as its opener and the quotes after that
triple_len : (opening : Opening) (word len : ℕ) → opening.is_triple ≡ true → len ≡ word + 2 → len ≡ word + more_quotes (opening_view opening)
triple_len opening word len is e = rw (is, e) refl

single_len : (opening : Opening) (word len : ℕ) → opening.is_triple ≡ false → len ≡ word → len ≡ word + more_quotes (opening_view opening)
single_len opening word len is e = rw (is, e) (omega arith)

start_here : {origin : Origin} → (c : After-begin_fstring) (history : History) → IsStateAfter origin c.args.self.now.text.now history c.args.self.now
    → step_here c.args.self.now.text.now history c.args.self.now ≡ grammar.token c.if-opening.len (FStringStart (opening_view c.opening_of-opening.result))
start_here c history kept =
    let remainder : c.range_from.result.now ≡ drop c.args.len (drop c.args.self.now.at c.args.self.now.text.now) = c.range_from.ensures.value ∙ ap (drop c.args.len) c.range_from-rest.ensures.value in
    let is : opening_view c.opening_of-opening.result ≡ opening_of c.args.is_raw c.args.quote (drop c.args.len (drop c.args.self.now.at c.args.self.now.text.now)) = c.opening_of-opening.ensures.opening ∙ ap (opening_of c.args.is_raw c.args.quote) remainder in
    let whole : c.if-opening.len ≡ c.args.len + more_quotes (opening_view c.opening_of-opening.result) = elim c.if-opening.branch [
      | then-opening w ↦ triple_len c.opening_of-opening.result c.args.len c.if-opening.len w.if-opening.true w.len-is
      | else-opening w ↦ single_len c.opening_of-opening.result c.args.len c.if-opening.len w.if-opening.false w.len-is
    ] in
    fstring_step c.args.self.now.text.now history c.args.self.now c.args.is_raw c.args.quote (opening_view c.opening_of-opening.result) c.args.len c.if-opening.len kept c.requires.stands is whole

inside : (c : After-begin_fstring) → c.args.self.now.at + c.if-opening.len ≤ length c.args.self.now.text.now
inside c =
    let left = state_here c.args.self.now c.requires.sound c.requires.stands.stage in
    (piece_inside c.args.self.now.text.now left.1 c.args.self.now _ left.2 (start_here c left.1 left.2)).1

pub step_over-requires-clause-fits : goal.step_over-requires-clause-fits
step_over-requires-clause-fits c = omega (arith, inside (goal.at.step_over-requires-clause-fits c).After-begin_fstring, c.requires.sound.text.fits)

pub overflow_add-result : goal.overflow_add-result
overflow_add-result c =
    let within : c.args.self.now.at + c.if-opening.len ≤ length c.args.self.now.text.now = inside (goal.at.overflow_add-result c).After-begin_fstring in
    search (rules, within)

-- the start of an f-string as a token
abbrev start : ℕ → Tokens.Opening → Lexeme
start len opening = record { begin = 0; node = FStringStart opening; end = len }

start_shown : (at len : ℕ) (opening : Tokens.Opening) (quotes : FStringQuote) → fstring_quote_view quotes ≡ record { is_raw = false; quote = opening.quote; is_triple = opening.is_triple } → lexeme_view (at, token.FStringStart quotes, at + len) ≡ shown_lexeme (moved at (start len opening))
unfolding token_view
start_shown at len opening quotes e = rw (e, add-zero at) refl

pub returns-clause-ahead : goal.returns-clause-ahead
returns-clause-ahead c =
    let old = c.args.self.now in
    let text = old.text.now in
    let len = c.if-opening.len in
    let opening = opening_view c.opening_of-opening.result in
    taken_here old (Some (old.at, token.FStringStart c.quotes_of.result, old.at + len)) c.step_over.new.self c.requires.stands.stage c.requires.stands.idle (λ origin history kept.
    rw c.step_over.ensures (took text history old (Some (old.at, token.FStringStart c.quotes_of.result, old.at + len)) _ _ c.requires.sound.text.utf8 kept (start_here (goal.at.returns-clause-ahead c).After-begin_fstring history kept) refl
    (c.in_ok-begin_fstring.ensures.begins history.tokens kept.nesting)
    (kept.levels ∙ ap open_widths (sym (append-nil history.widths)))
    refl
    refl
    (omega (arith, c.begin_fstring.ensures.count, kept.few))
    refl
    (hands_one text old.pending (old.at, token.FStringStart c.quotes_of.result, old.at + len) (moved old.at (start len opening)) c.requires.stands.idle (start_shown old.at len opening c.quotes_of.result c.quotes_of.ensures))))

pub returns-in_err-begin_fstring-clause-memory : goal.returns-in_err-begin_fstring-clause-memory
returns-in_err-begin_fstring-clause-memory c = after_error c.from_residual.result _ (λ origin lexemes fault ahead. onward_something c.args.self.now.text.now c.args.self.now lexemes fault c.requires.stands.idle c.requires.stands.stage ahead)
