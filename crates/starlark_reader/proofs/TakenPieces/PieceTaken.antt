-- What a reader does with the piece at its offset.
use Rattle.std.proofs.Common.{rules, ◌≡◌, ◌≢◌, ℕ, ◌+◌, ◌-◌, ◌^◌, ◌<◌, ◌≤◌, ◌==◌, Bool, true, false, List, [], ◌∷◌, length, drop, refl, sym, ap, ◌∙◌, subst, arith, append-nil, get_or, take, None}
use Rattle.std.specs.Prelude.{⊤, ◌++◌, IfOk, Ok, Err, Result, Option, Vec, if◌then◌else◌}
use Rattle.std.specs.Str.{IsCharBoundary, IsUtf8}
use Rattle.std.proofs.Math.Bool.{and-false}
use Rattle.std.specs.declared.alloc.Global.{Global}
use Rattle.starlark_grammar.specs.Words.{Text, is_comment, language}
use Rattle.starlark_grammar.specs.Numbers.{integer_of}
use Rattle.starlark_grammar.specs.Tokens as Tokens
use Rattle.starlark_grammar.specs.Tokens.{Fault, Spanned, moved}
use Rattle.starlark_grammar.specs.declared.class.Class.{Class}
use Rattle.starlark_grammar.specs.declared.class.Class.TheVariants as class
use Rattle.std.proofs.lemmas.Bool.{and_parts, eqb-true}
use Rattle.std.proofs.lemmas.List.{drop-drop, drop-take, get_or-drop, get_or-take, length-drop, length-take}
use Rattle.starlark_grammar.specs.declared.class.LiteralKind.{LiteralKind}
use Rattle.starlark_grammar.specs.declared.class.LiteralKind.TheVariants.{Text as OfText, Bytes as OfBytes, FString as OfFString}
use Rattle.starlark_grammar.specs.declared.class.Quote.{Quote}
use Rattle.starlark_grammar.specs.declared.class.Terminal.{Terminal}
use Rattle.starlark_grammar.specs.declared.class.Terminal.TheVariants as terminals
use Rattle.starlark_grammar.specs.Depths.{AtTop, Curly, InText, Mode, is_opening}
use Rattle.starlark_grammar.specs.Items.{Body, Stop, Closing, OpeningBrace, body_at, body_len, body_value}
use Rattle.starlark_grammar.proofs.Reading.Steps.{Each}
use Rattle.std.specs.List.{AllByRecursion}
use Rattle.starlark_words.specs.Inner.LiteralViews.{IsPlainBody}
use Rattle.starlark_grammar.specs.Inner.Openings.{opening_view}
use Rattle.starlark_grammar.specs.declared.class.Opening.{Opening}
use Rattle.std.proofs.lemmas.Str.{IsCharBoundary-after_ascii, IsUtf8-drop}
use Rattle.starlark_grammar.proofs.Order.Edges.{boundary_shift}
use Rattle.starlark_grammar.proofs.Words.Classes.{word_is_of}
use Rattle.starlark_reader.proofs.ReadLiterals.LiteralPieces.{opener_plain}
use Rattle.starlark_reader.proofs.OpenBrackets.OpenFStrings.{one_kept}
use Rattle.starlark_token.specs.Lexemes.{shown_lexeme}
use Rattle.starlark_reader.specs.Inner.StepViews.{IsPlainText, IsStep, text_step}
use Rattle.starlark_reader.specs.Inner.Nesting.{Represents, is_fstring_start, keeps_nesting, mode_view}
use Rattle.starlark_reader.specs.declared.literal.chunks.Chunk.{Chunk}
use Rattle.starlark_reader.specs.Inner.StepViews as step
use Rattle.starlark_reader.specs.declared.reader.Stage.{Stage}
use Rattle.starlark_token.specs.declared.tokens.Token.TheVariants as token
use Rattle.starlark_grammar.specs.Depths.{is_balanced, mode_after}
use Rattle.starlark_grammar.specs.Margins.{open_widths}
use Rattle.starlark_grammar.specs.Pieces as pieces
use Rattle.starlark_grammar.specs.Pieces.{Piece, Situation, Step, step_at}
use Rattle.starlark_grammar.specs.Reading.{History, next_step, situation}
use Rattle.starlark_reader.specs.Inner.Pending.{IsIdle}
use Rattle.starlark_token.specs.declared.lexeme_error.LexemeError.{LexemeError}
use Rattle.starlark_token.specs.declared.tokens.Token.{Token}
use Rattle.starlark_words.specs.declared.scanner.word.Word.{Word}
use Rattle.starlark_reader.specs.Inner.PieceViews.{IsAfter, is_code, nothing_of}
use Rattle.starlark_reader.specs.Inner.Reader.{IsAhead, IsAheadAfter, IsAheadPast, IsAtStep, IsBangHere, IsPlainTextHere, IsRead, IsReadPast, IsReady, IsStateAfter, IsTokenOf, IsWordHere, Origin, Takes, before_view, left_here, silent_sort, step_here}
use Rattle.starlark_reader.specs.Inner.StepViews.{IsDigitAt}
use Rattle.starlark_token.specs.TokenViews.{TokenView, Whole, token_view}
use Rattle.starlark_reader.specs.declared.nesting.LexerMode.{LexerMode}
use Rattle.starlark_reader.specs.declared.nesting.LexerMode.TheVariants as modes
use Rattle.starlark_reader.specs.declared.reader.Before as sort
use Rattle.starlark_reader.specs.declared.reader.Before.TheVariants as before
use Rattle.starlark_reader.specs.declared.reader.Reader.{Reader}
use Rattle.starlark_reader.specs.declared.reader.Stage.TheVariants as stage
use Rattle.starlark_reader.proofs.TakenPieces.CodePlaces.{bang_at, in_text, word_at, word_class, word_cut, word_len, word_some}
use Rattle.starlark_reader.proofs.TakenPieces.Here.{fault_here, piece_here, shown_own}
use Rattle.starlark_reader.proofs.TakenPieces.Taken.{failed, none_before, past_ahead, read_ahead, took_past}
use Rattle.starlark_reader.proofs.TakenMargins.PendingLexemes.{HandsPast, hands_none, passes_one}

-- whether the piece right before is a skipped one
abbrev pub is_gap_sort : sort.Before → Bool
is_gap_sort before.Gap = true
is_gap_sort sort = false

pub after_sort : (sort : sort.Before) (before : pieces.Before) → before_view sort ≡ before → IsAfter (is_gap_sort sort) before
after_sort before.Gap before is = subst (IsAfter true) is refl
after_sort sort before is = subst (IsAfter false) is refl

pub no_gap : (sort : sort.Before) (there : pieces.Before) → (sort ≡ before.Gap → ⊥) → before_view sort ≡ there → IsAfter false there
no_gap before.Layout there other is = subst (IsAfter false) is refl
no_gap before.Gap there other is = absurd (other refl)
no_gap before.Other there other is = subst (IsAfter false) is refl

-- no token of an f-string's text opens a brace
abbrev NoBrace : Step → Type 0
NoBrace step = Each (λ piece. AllByRecursion (λ (lexeme : Tokens.Lexeme). is_opening Curly lexeme.node ≡ false) piece.lexemes) (λ fault. ⊤) step

chunk_braces : (opening : Tokens.Opening) (text : Text) → NoBrace (pieces.chunk opening text)
unfolding pieces.chunk
chunk_braces opening text = by (body_at (record { kind = OfFString; opening = opening }) text) _
  where
    all : (len end : ℕ) (value : Text) (node : Tokens.Token) → is_opening Curly node ≡ false
        → AllByRecursion (λ (lexeme : Tokens.Lexeme). is_opening Curly lexeme.node ≡ false) (pieces.chunk_text len value ++ record { begin = len; node = node; end = end } ∷ [])
    all len end [] node none = (none, tt)
    all len end (b ∷ bs) node none = (refl, (none, tt))

    by : (body : Body) (stop : Stop) → NoBrace (pieces.chunk_by opening text body stop)
    by body OpeningBrace = all (body_len body) _ (body_value body) Tokens.FStringExprStart refl
    by body Closing = all (body_len body) _ (body_value body) Tokens.FStringEnd refl
    by body stop = tt

-- a token that opens a brace is in code
pub brace_in_code : {origin : Origin} → (text : Text) (history : History) (reader : Reader) (len : ℕ) (node : Tokens.Token) → IsStateAfter origin text history reader → step_here text history reader ≡ pieces.token len node → is_opening Curly node ≡ true → is_code (mode_after history.tokens) ≡ true
unfolding next_step situation
brace_in_code text history reader len node kept stands brace = go (mode_after history.tokens) refl
  where
    go : (mode : Mode) → mode_after history.tokens ≡ mode → is_code mode ≡ true
    go (InText opening) e =
        let chunk = in_text (is_gap_sort reader.before) (situation history) (drop reader.at text) opening (after_sort reader.before history.before kept.before) e in
        let none : NoBrace (pieces.token len node) = subst NoBrace (sym chunk ∙ stands) (chunk_braces opening (drop reader.at text)) in
        let both : false ≡ true = sym none.0 ∙ brace in
        cc
    go mode e = refl

-- the f-string text without escapes that was read is the step at the reader's offset
plain_read : {origin : Origin} → (text rest : Text) (history : History) (reader : Reader) (opening : Opening) (found : Chunk) → rest ≡ drop reader.at text → IsStateAfter origin text history reader → mode_after history.tokens ≡ InText (opening_view opening)
    → IsPlainText opening rest found → step_here text history reader ≡ text_step (take found.len (drop reader.at text)) found
unfolding next_step situation
plain_read text rest history reader opening found e kept mode is =
    subst (λ (t : Text). step_at language (situation history) t ≡ text_step (take found.len t) found) e
    (in_text (is_gap_sort reader.before) (situation history) rest (opening_view opening) (after_sort reader.before history.before kept.before) mode ∙ is.stands)

pub plain_here : (text rest : Text) (reader : Reader) (mode : LexerMode) (opening : Opening) (found : Result Chunk ℕ) → rest ≡ drop reader.at text → reader.stage ≡ stage.Onward → IsIdle text reader.pending → mode ≡ modes.InText opening
    → ((tokens : List Tokens.Token) → Represents tokens reader.nesting → mode_view mode ≡ mode_after tokens) → IfOk found (IsPlainText opening rest) → IfOk found (IsPlainTextHere text reader)
plain_here text rest reader mode opening (Err run) e on idle in_text here is = tt
plain_here text rest reader mode opening (Ok found) e on idle in_text here is = record {
  stage = on;
  idle = idle;
  boundary = subst (λ (t : Text). IsCharBoundary t found.len) e is.boundary;
  stands = λ origin history kept. plain_read text rest history reader opening found e kept (sym (here history.tokens kept.nesting) ∙ ap mode_view in_text) is;
}

-- the step of a word at the reader's offset
pub word_read : {origin : Origin} → (text : Text) (history : History) (reader : Reader) (word : Word) → IsStateAfter origin text history reader → IsWordHere text reader word
    → step_here text history reader ≡ pieces.word_step (situation history) word.class (take word.len (drop reader.at text)) (drop word.len (drop reader.at text))
unfolding next_step situation
word_read text history reader word kept here =
    word_at (is_gap_sort reader.before) (situation history) (drop reader.at text) (mode_after history.tokens) word.class word.len (here.code history.tokens kept.nesting) (after_sort reader.before history.before kept.before) refl (sym here.front) here.bang

pub name_here : {origin : Origin} → (text : Text) (history : History) (reader : Reader) (len : ℕ) → IsStateAfter origin text history reader → IsWordHere text reader (record { class = class.Identifier; len = len }) → step_here text history reader ≡ pieces.token len (Tokens.Identifier (take len (drop reader.at text)))
name_here text history reader len kept here =
    word_read text history reader (record { class = class.Identifier; len = len }) kept here ∙ ap (λ n. pieces.token n (Tokens.Identifier (take len (drop reader.at text)))) (word_len (drop reader.at text) class.Identifier len (sym here.front))

-- a word has a byte at least, and lies inside of the text
pub word_within : {origin : Origin} → (text : Text) (history : History) (reader : Reader) (it : Class) (len : ℕ) → IsStateAfter origin text history reader → IsWordHere text reader (record { class = it; len = len }) → (1 ≤ len) × (reader.at + len ≤ length text)
word_within text history reader it len kept here =
    let rest = drop reader.at text in
    (word_some rest it len (sym here.front), omega (arith, word_len rest it len (sym here.front), length-take len rest, length-drop reader.at text, kept.inside))

pub gap_here : {origin : Origin} → (text : Text) (history : History) (reader : Reader) (len : ℕ) → IsStateAfter origin text history reader → IsWordHere text reader (record { class = class.Skipped; len = len }) → step_here text history reader ≡ pieces.gap len
gap_here text history reader len kept here = word_read text history reader (record { class = class.Skipped; len = len }) kept here ∙ ap pieces.gap (word_len (drop reader.at text) class.Skipped len (sym here.front))

pub comment_here : {origin : Origin} → (text : Text) (history : History) (reader : Reader) (len : ℕ) → IsStateAfter origin text history reader → IsWordHere text reader (record { class = class.Comment; len = len })
    → step_here text history reader ≡ pieces.token len (Tokens.Comment (take (reader.at + len - (reader.at + 1)) (drop (reader.at + 1) text)))
comment_here text history reader len kept here =
    let rest = drop reader.at text in
    let some = (word_within text history reader class.Comment len kept here).0 in
    let whole : 1 + (len - 1) ≡ len = omega (arith, some) in
    let count : len - 1 ≡ reader.at + len - (reader.at + 1) = omega arith in
    let value : drop 1 (take len rest) ≡ take (reader.at + len - (reader.at + 1)) (drop (reader.at + 1) text) =
    ap (λ n. drop 1 (take n rest)) (sym whole) ∙ drop-take 1 (len - 1) rest ∙ ap (take (len - 1)) (drop-drop 1 reader.at text) ∙ ap (λ n. take n (drop (reader.at + 1) text)) count in
    word_read text history reader (record { class = class.Comment; len = len }) kept here ∙ ap (λ n. pieces.token n (Tokens.Comment (drop 1 (take len rest)))) (word_len rest class.Comment len (sym here.front)) ∙ ap (λ t. pieces.token len (Tokens.Comment t)) value

-- the value of a comment begins at a character boundary
pub comment_cut : {origin : Origin} → (text : Text) (history : History) (reader : Reader) (len : ℕ) → IsUtf8 text → IsStateAfter origin text history reader → IsWordHere text reader (record { class = class.Comment; len = len }) → IsCharBoundary text (reader.at + 1)
comment_cut text history reader len utf8 kept here =
    let rest = drop reader.at text in
    let within = word_within text history reader class.Comment len kept here in
    let hash = begins_hash (take len rest) (word_is_of (take len rest) class.Comment (word_class rest class.Comment len (sym here.front))) in
    let first : get_or text (reader.at + 0) 0 ≡ get_or text reader.at 0 = ap (λ i. get_or text i 0) (omega arith) in
    IsCharBoundary-after_ascii text reader.at utf8 (omega (arith, within)) (omega (arith, hash, get_or-take len rest 0 0 within.0, get_or-drop reader.at text 0 0, first))
  where
    begins_hash : (word : Text) → is_comment word ≡ true → get_or word 0 0 ≡ 35
    begins_hash [] h = cc
    begins_hash (b ∷ bs) h = eqb-true b 35 (and_parts (b == 35) _ h).0

-- the step of an integer of one digit
digit_word : (s : Situation) (digit : ℕ) (word remainder : Text) → word ≡ (digit + 48) ∷ [] → pieces.word_step s class.Decimal word remainder ≡ pieces.token 1 (Tokens.Int (integer_of 10 word))
digit_word s digit word remainder e = rw e (rw (and-false (digit + 48 == 48)) refl)

pub digit_step : {origin : Origin} → (text : Text) (history : History) (reader : Reader) (digit : ℕ) (found : Token) → IsStateAfter origin text history reader → IsWordHere text reader (record { class = class.Decimal; len = 1 })
    → IsDigitAt digit (drop reader.at text) → token_view found ≡ Whole (Tokens.Int (integer_of 10 ((digit + 48) ∷ []))) → IsStep (step_here text history reader) (step.Token found 1)
digit_step text history reader digit found kept here at view = (
  Tokens.Int (integer_of 10 (take 1 (drop reader.at text))),
  view ∙ ap (λ t. Whole (Tokens.Int (integer_of 10 t))) (sym at.1),
  refl,
  word_read text history reader (record { class = class.Decimal; len = 1 }) kept here ∙ digit_word (situation history) digit (take 1 (drop reader.at text)) (drop 1 (drop reader.at text)) at.1,
)

-- a bang at the reader's offset, at the top of an f-string expression
pub bang_read : (text : Text) (history : History) (reader : Reader) → mode_after history.tokens ≡ AtTop → IsAfter false history.before → pieces.is_bang (drop reader.at text) ≡ true → step_here text history reader ≡ pieces.token 1 Tokens.FStringBang
unfolding next_step situation
bang_read text history reader top remainder bang = bang_at false (situation history) (drop reader.at text) AtTop refl remainder top (rw (takes history.before remainder, bang) refl)
  where
    takes : (before : pieces.Before) → IsAfter false before → pieces.takes_bang AtTop before ≡ true
    takes pieces.Nothing after = absurd after
    takes pieces.Layout after = refl
    takes pieces.Gap after = cc
    takes pieces.Other after = refl

pub bang_step : {origin : Origin} → (text : Text) (history : History) (reader : Reader) → IsStateAfter origin text history reader → IsBangHere text reader → IsStep (step_here text history reader) (step.Token token.FStringBang 1)
unfolding token_view
bang_step {origin = origin} text history reader kept here = (Tokens.FStringBang, refl, refl, here.stands origin history kept)

-- a literal without escapes that one quote closes
plain_opener : (mode : Mode) (kind : LiteralKind) (is_raw : Bool) (quote : Quote) (begin count : ℕ) (remainder : Text) → kind ≢ OfFString → IsPlainBody kind is_raw quote remainder count
    → pieces.opener mode kind (pieces.opening_of is_raw quote remainder) begin remainder ≡ pieces.token (begin + count + 1) (pieces.literal_token kind (take count remainder))
plain_opener mode kind is_raw quote begin count remainder other plain =
    opener_plain mode kind (pieces.opening_of is_raw quote remainder) begin remainder other plain.single ∙ ap (λ opening. pieces.literal mode kind opening begin remainder) same ∙ closed
  where
    single : Tokens.Opening
    single = record { is_raw = is_raw; quote = quote; is_triple = false }

    same : pieces.opening_of is_raw quote remainder ≡ single
    same = ap (λ (triple : Bool). record { is_raw = is_raw; quote = quote; is_triple = triple }) plain.single

    closed : pieces.literal mode kind single begin remainder ≡ pieces.token (begin + count + 1) (pieces.literal_token kind (take count remainder))
    closed = rw (plain.stop, plain.len, plain.value) refl

plain_front : {origin : Origin} → (text : Text) (history : History) (reader : Reader) (kind : LiteralKind) (is_raw : Bool) (quote : Quote) (len count : ℕ) → kind ≢ OfFString → IsStateAfter origin text history reader
    → IsWordHere text reader (record { class = class.Opener kind is_raw quote; len = len }) → IsPlainBody kind is_raw quote (drop len (drop reader.at text)) count
    → step_here text history reader ≡ pieces.token (len + count + 1) (pieces.literal_token kind (take count (drop len (drop reader.at text))))
unfolding situation
plain_front text history reader kind is_raw quote len count other kept here plain =
    rw (word_read text history reader (record { class = class.Opener kind is_raw quote; len = len }) kept here, word_len (drop reader.at text) (class.Opener kind is_raw quote) len (sym here.front)) (plain_opener (mode_after history.tokens) kind is_raw quote len count (drop len (drop reader.at text)) other plain)

pub text_here : {origin : Origin} → (text : Text) (history : History) (reader : Reader) (is_raw : Bool) (quote : Quote) (len count : ℕ) → IsStateAfter origin text history reader
    → IsWordHere text reader (record { class = class.Opener OfText is_raw quote; len = len }) → IsPlainBody OfText is_raw quote (drop len (drop reader.at text)) count
    → step_here text history reader ≡ pieces.token (len + count + 1) (Tokens.String (take count (drop len (drop reader.at text))))
text_here text history reader is_raw quote len count kept here plain = plain_front text history reader OfText is_raw quote len count (λ e. cc) kept here plain

pub bytes_step : {origin : Origin} → (text : Text) (history : History) (reader : Reader) (is_raw : Bool) (quote : Quote) (len count : ℕ) (value : Vec ℕ Global) → IsStateAfter origin text history reader
    → IsWordHere text reader (record { class = class.Opener OfBytes is_raw quote; len = len }) → IsPlainBody OfBytes is_raw quote (drop len (drop reader.at text)) count
    → value.items ≡ take count (drop len (drop reader.at text)) → IsStep (step_here text history reader) (step.Token (token.Bytes value) (len + count + 1))
unfolding token_view situation
bytes_step text history reader is_raw quote len count value kept here plain is = (
  Tokens.Bytes (take count (drop len (drop reader.at text))),
  ap (λ t. Whole (Tokens.Bytes t)) is,
  refl,
  plain_front text history reader OfBytes is_raw quote len count (λ e. cc) kept here plain,
)

pub terminal_step : {origin : Origin} → (text : Text) (history : History) (reader : Reader) (terminal : Terminal) (len : ℕ) (found : Token) → IsStateAfter origin text history reader → IsWordHere text reader (record { class = class.Fixed terminal; len = len })
    → token_view found ≡ Whole (pieces.terminal_token (mode_after history.tokens) terminal) → IsStep (step_here text history reader) (step.Token found len)
unfolding situation
terminal_step text history reader terminal len found kept here view = (
  pieces.terminal_token (mode_after history.tokens) terminal,
  view,
  own (mode_after history.tokens) terminal,
  word_read text history reader (record { class = class.Fixed terminal; len = len }) kept here
      ∙ ap (λ n. pieces.token n (pieces.terminal_token (mode_after history.tokens) terminal)) (word_len (drop reader.at text) (class.Fixed terminal) len (sym here.front)),
)
  where
    own : (mode : Mode) (terminal : Terminal) → is_fstring_start (pieces.terminal_token mode terminal) ≡ false
    own AtTop terminals.ClosingCurly = refl
    own mode terminal = refl

-- only a closing brace has another token than itself, and only at the top of an expression
pub other_terminal : (mode : Mode) (terminal : Terminal) → (terminal ≡ terminals.ClosingCurly → ⊥) → pieces.terminal_token mode terminal ≡ Tokens.Word terminal
other_terminal AtTop terminals.ClosingCurly other = absurd (other refl)
other_terminal mode terminal other = refl

pub brace_deeper : (mode : LexerMode) → (mode ≡ modes.AtTop → ⊥) → pieces.terminal_token (mode_view mode) terminals.ClosingCurly ≡ Tokens.Word terminals.ClosingCurly
brace_deeper modes.Outside other = refl
brace_deeper (modes.InText opening) other = refl
brace_deeper modes.AtTop other = absurd (other refl)
brace_deeper modes.Deeper other = refl

-- the step of an f-string's start, from its opener and the text after that
pub fstring_step : {origin : Origin} → (text : Text) (history : History) (reader : Reader) (is_raw : Bool) (quote : Quote) (opening : Tokens.Opening) (word len : ℕ) → IsStateAfter origin text history reader → IsWordHere text reader (record { class = class.Opener OfFString is_raw quote; len = word })
    → opening ≡ pieces.opening_of is_raw quote (drop word (drop reader.at text)) → len ≡ word + pieces.more_quotes opening
    → step_here text history reader ≡ pieces.token len (Tokens.FStringStart opening)
unfolding situation
fstring_step text history reader is_raw quote opening word len kept here is whole =
    rw (word_read text history reader (record { class = class.Opener OfFString is_raw quote; len = word }) kept here, word_len (drop reader.at text) (class.Opener OfFString is_raw quote) word (sym here.front), whole, is) refl

-- the step of a newline at the reader's offset, by whether it counts
pub line_end_step : {origin : Origin} → (text : Text) (history : History) (reader : Reader) (len : ℕ) (counts : Bool) → IsStateAfter origin text history reader → IsWordHere text reader (record { class = class.LineEnd; len = len })
    → ((before : List Tokens.Token) → Represents before reader.nesting → counts ≡ pieces.counts (mode_after before) (is_balanced before))
    → step_here text history reader ≡ (if counts then pieces.line_end len (open_widths history.widths) (drop len (drop reader.at text)) else pieces.piece len [])
unfolding situation
line_end_step text history reader len counts kept here is =
    word_read text history reader (record { class = class.LineEnd; len = len }) kept here
    ∙ ap (λ n. if pieces.counts (mode_after history.tokens) (is_balanced history.tokens) then pieces.line_end n (open_widths history.widths) (drop len (drop reader.at text)) else pieces.piece n []) (word_len (drop reader.at text) class.LineEnd len (sym here.front))
    ∙ ap (λ (b : Bool). if b then pieces.line_end len (open_widths history.widths) (drop len (drop reader.at text)) else pieces.piece len []) (sym (is history.tokens kept.nesting))

-- the reader stops at the fault of the step at its offset
module _ (old : Reader) (begin end : ℕ) (fault : LexemeError) where
  pub refused_fits : IsAtStep old (λ history found. IsStep found (step.Fault begin fault end)) → (old.at + begin < 2 ^ 64) × (old.at + end < 2 ^ 64)
  refused_fits here =
      let inside = fault_here old.text.now here.stands.1 old (record { begin = begin; node = here.stands.3.0; end = end }) here.stands.2 here.stands.3.2 in
      (omega (arith, inside.0, inside.1, here.text.fits), omega (arith, inside.1, here.text.fits))

  pub refused_read : IsIdle old.text.now old.pending → Takes old (λ history found. IsStep found (step.Fault begin fault end)) None (record old { stage = stage.Fault (old.at + begin) fault (old.at + end) })
  refused_read idle = λ origin history kept stands.
      failed old.text.now history old _ (record { begin = begin; node = stands.0; end = end }) fault kept stands.2 stands.1 refl (hands_none old.text.now old.pending idle) (record { at = refl; nesting = refl; levels = refl; before = refl })

-- what is left after the reader's offset
pub left_onward : {origin : Origin} → (text : Text) (reader : Reader) (lexemes : List (Spanned TokenView)) (fault : Option (Spanned Fault)) → reader.stage ≡ stage.Onward → IsAhead origin text reader reader.stage lexemes fault → IsAhead origin text reader stage.Onward lexemes fault
left_onward {origin = origin} text reader lexemes fault on ahead = subst (λ (s : Stage). IsAhead origin text reader s lexemes fault) on ahead

-- what is ahead once one lexeme was passed here, whatever the history
pub onward_past : {origin : Origin} → (text : Text) (old : Reader) (lexeme : Spanned TokenView) (new : Reader) (lexemes : List (Spanned TokenView)) (fault : Option (Spanned Fault)) → ((history : History) → IsStateAfter origin text history old → IsReadPast origin text (left_here text history old) (lexeme ∷ []) new)
    → IsIdle text old.pending → IsAhead origin text old stage.Onward lexemes fault → IsAheadPast origin text lexeme new lexemes fault
onward_past text old lexeme new lexemes fault read idle ahead =
    let both = none_before text old stage.Onward lexemes fault (left_here text ahead.is_left.0 old) idle ahead ahead.is_left.2 in
    past_ahead text (left_here text ahead.is_left.0 old) lexeme new lexemes fault (read ahead.is_left.0 ahead.is_left.1) both.0 both.1

-- what is ahead is still ahead after the piece here is read, whatever the history
pub onward_ahead : {origin : Origin} → (text : Text) (old : Reader) (given : Option (ℕ × Token × ℕ)) (new : Reader) (lexemes : List (Spanned TokenView)) (fault : Option (Spanned Fault)) → ((history : History) → IsStateAfter origin text history old → IsRead origin text (left_here text history old) given new)
    → IsIdle text old.pending → IsAhead origin text old stage.Onward lexemes fault → IsAheadAfter origin text given new lexemes fault
onward_ahead text old given new lexemes fault read idle ahead = search (rules, none_before, read_ahead)

abbrev pub nothing_piece : ℕ → Bool → Piece
nothing_piece len true = record { len = len; lexemes = []; width = None; sort = pieces.Gap }
nothing_piece len false = record { len = len; lexemes = []; width = None; sort = pieces.Other }

-- a piece without lexemes changes only the offset and the kind of the piece before it
pub nothing_taken : {origin : Origin} → (text : Text) (history : History) (old new : Reader) (len : ℕ) (is_gap : Bool) → IsUtf8 text → IsStateAfter origin text history old → step_here text history old ≡ nothing_of len is_gap → IsIdle text old.pending
    → new ≡ record old { at = old.at + len; before = silent_sort is_gap; stage = stage.Onward } → IsRead origin text (left_here text history old) None new
nothing_taken text history old new len true utf8 kept stands idle is =
    let here = piece_here text history old (nothing_piece len true) kept stands in
    rw is (took_past text history old _ _ (nothing_piece len true) utf8 kept stands refl kept.nesting (kept.levels ∙ ap open_widths (sym (append-nil history.widths))) refl refl (omega (arith, kept.few, here.0)) refl (hands_none text old.pending idle))
nothing_taken text history old new len false utf8 kept stands idle is =
    let here = piece_here text history old (nothing_piece len false) kept stands in
    rw is (took_past text history old _ _ (nothing_piece len false) utf8 kept stands refl kept.nesting (kept.levels ∙ ap open_widths (sym (append-nil history.widths))) refl refl (omega (arith, kept.few, here.0)) refl (hands_none text old.pending idle))

-- a token that changes neither brackets nor f-strings
abbrev pub one_token : ℕ → Tokens.Token → Piece
one_token len node = record { len = len; lexemes = record { begin = 0; node = node; end = len } ∷ []; width = None; sort = pieces.Other }

pub token_inside : {origin : Origin} → (text : Text) (history : History) (reader : Reader) (len : ℕ) (node : Tokens.Token) → IsStateAfter origin text history reader → step_here text history reader ≡ pieces.token len node → (1 ≤ len) × (reader.at + len ≤ length text)
token_inside text history reader len node kept stands = piece_here text history reader (one_token len node) kept stands

pub token_passed : {origin : Origin} → (text : Text) (history : History) (old new : Reader) (len : ℕ) (node : Tokens.Token) → IsUtf8 text → IsStateAfter origin text history old → step_here text history old ≡ pieces.token len node → IsIdle text old.pending → is_fstring_start node ≡ false
    → keeps_nesting (Whole node) ≡ true → new ≡ record old { at = old.at + len; before = before.Other; stage = stage.Onward } → IsReadPast origin text (left_here text history old) (record { begin = old.at; node = Whole node; end = old.at + len } ∷ []) new
token_passed text history old new len node utf8 kept stands idle own keeps is =
    let here = piece_here text history old (one_token len node) kept stands in
    let start : old.at + 0 ≡ old.at = omega arith in
    let shown : shown_lexeme (moved old.at (record { begin = 0; node = node; end = len })) ≡ record { begin = old.at; node = Whole node; end = old.at + len } = rw (start, shown_own node own) refl in
    rw is (took_past text history old (record { begin = old.at; node = Whole node; end = old.at + len } ∷ []) _ (one_token len node) utf8 kept stands refl
    (one_kept node history.tokens old.nesting keeps kept.nesting)
    (kept.levels ∙ ap open_widths (sym (append-nil history.widths))) refl refl (omega (arith, kept.few, here.0)) refl
    (subst (λ (view : Spanned TokenView). HandsPast text (view ∷ []) old.pending (moved old.at (record { begin = 0; node = node; end = len }) ∷ [])) shown (passes_one text old.pending (moved old.at (record { begin = 0; node = node; end = len })) idle)))

-- the token of a keyword or symbol, in any mode
pub terminal_shown : (mode : Mode) (terminal : Terminal) (view : TokenView) → view ≡ Whole (pieces.terminal_token mode terminal) → IsTokenOf terminal view
terminal_shown AtTop terminals.ClosingCurly view is = rw is refl
terminal_shown mode terminal view is = rw is refl

-- a word at the reader's offset ends at a character boundary
pub word_boundary : (text : Text) (reader : Reader) (word : Word) → IsUtf8 text → IsReady text reader reader.stage → IsWordHere text reader word → IsCharBoundary text (reader.at + word.len)
word_boundary text reader word utf8 ready here =
    let left = (left_onward text reader ready.1 ready.2 here.stage ready.3).is_left in
    boundary_shift text reader.at word.len left.1.boundary (word_cut (drop reader.at text) word.class word.len (IsUtf8-drop text reader.at utf8 left.1.boundary) (sym here.front))
