-- String and bytes literals as steps.
use Rattle.std.proofs.Common.{◌≡◌, ◌≢◌, ℕ, zero, suc, ◌+◌, ◌-◌, ◌≤◌, ◌==◌, ◌&&◌, ◌||◌, Bool, true, false, not, [], ◌∷◌, length, take, drop, get_or, nat_eq, refl, sym, ap, subst, ◌∙◌, arith, rules}
use Rattle.std.proofs.lemmas.Bool.{and_parts, and_right, eqb-true}
use Rattle.std.proofs.lemmas.List.{get_or-drop, length-drop}
use Rattle.std.proofs.lemmas.Str.{IsCharBoundary-after_ascii, IsUtf8-drop}
use Rattle.std.specs.List.{starts_with}
use Rattle.std.specs.Str.{IsUtf8, IsCharBoundary}
use Rattle.starlark_grammar.specs.Words.{Text}
use Rattle.starlark_grammar.specs.declared.class.Quote.{Quote}
use Rattle.starlark_grammar.specs.declared.class.Quote.TheVariants.{Single as SingleQuote, Double as DoubleQuote}
use Rattle.starlark_grammar.specs.declared.class.LiteralKind.{LiteralKind as Kind}
use Rattle.starlark_grammar.specs.declared.class.LiteralKind.TheVariants.{Text as OfText, Bytes as OfBytes, FString as OfFString}
use Rattle.starlark_grammar.specs.Tokens.{String, Bytes, Opening, EmptyEscapeSequence, InvalidEscapeSequence, UnfinishedStringLiteral}
use Rattle.starlark_grammar.specs.Items.{Literal, Found, Goes, Stops, Closing, Line, BadEscape, body_at, body_from, body_len, body_onward, body_value, closing_quotes, found_at, is_of_bytes, quote_byte}
use Rattle.starlark_grammar.specs.Depths.{Mode, InText, AtTop, Deeper}
use Rattle.starlark_grammar.specs.Pieces as pieces
use Rattle.starlark_grammar.specs.Pieces.{fault, literal_token, escape_fault}
use Rattle.starlark_reader.specs.Inner.Nesting.{is_fstring_start}
use Rattle.starlark_grammar.proofs.Choices.{by_test, either}
use Rattle.starlark_grammar.proofs.Lists.{drop-sum}
use Rattle.starlark_grammar.proofs.Literals.Bodies.{body_fits}
use Rattle.starlark_grammar.proofs.Literals.Forms.{FoundIs, item_found, item_found_is}
use Rattle.starlark_grammar.proofs.Order.Edges.{StopAt, after_plain, boundary_shift, starts_split, stop_at}

pub token_of_text : (kind : Kind) (value : Text) → true ≡ not (is_of_bytes kind) → String value ≡ literal_token kind value
token_of_text OfBytes value h = cc
token_of_text kind value h = refl

pub token_of_bytes : (kind : Kind) (value : Text) → false ≡ not (is_of_bytes kind) → Bytes value ≡ literal_token kind value
token_of_bytes OfBytes value h = refl
token_of_bytes kind value h = cc

pub escape_none : (begin : ℕ) (read : Text) → (length read == 0) ≡ true → escape_fault begin read ≡ fault begin EmptyEscapeSequence (begin + 1)
escape_none begin [] h = let same : 1 + begin ≡ begin + 1 = omega arith in ap (fault begin EmptyEscapeSequence) same
escape_none begin (b ∷ bs) h = grind arith

pub escape_some : (begin : ℕ) (read : Text) → (length read == 0) ≡ false → escape_fault begin read ≡ fault begin (InvalidEscapeSequence read) (begin + 1 + length read)
escape_some begin [] h = grind arith
escape_some begin (b ∷ bs) h = let same : begin + length (92 ∷ b ∷ bs) ≡ begin + 1 + length (b ∷ bs) = omega arith in ap (fault begin (InvalidEscapeSequence (b ∷ bs))) same

-- a body that stops after `len` bytes has its stop in the text
pub closing_fits : (literal : Literal) (text : Text) (len : ℕ) → len ≡ body_len (body_at literal text) → (body_at literal text).stop ≡ Closing → len + length (closing_quotes literal.opening) ≤ length text
closing_fits literal text len same closing = search (rules, body_fits, length-drop)

pub bad_fits : (literal : Literal) (text : Text) (len read last : ℕ) → len ≡ body_len (body_at literal text) → (body_at literal text).stop ≡ BadEscape read last → (1 ≤ read) × (len + read ≤ length text)
bad_fits literal text len read last same bad = search (rules, body_fits, length-drop)

-- the backslash of a bad escape and its last character end at character boundaries
pub bad_edges : (literal : Literal) (text : Text) (len read last : ℕ) → IsUtf8 text → IsCharBoundary text len → len ≡ body_len (body_at literal text) → (body_at literal text).stop ≡ BadEscape read last
    → IsCharBoundary text (len + 1) × IsCharBoundary text (len + read)
bad_edges literal text len read last utf8 here same bad =
    let stop : StopAt literal.opening (drop len text) (BadEscape read last) =
    subst (λ n. StopAt literal.opening (drop n text) (BadEscape read last)) (sym same) (subst (StopAt literal.opening (drop (body_len (body_at literal text)) text)) bad (stop_at literal text)) in
    let fits = bad_fits literal text len read last same bad in (
      IsCharBoundary-after_ascii text len utf8 (omega (arith, fits.0, fits.1)) (omega (arith, ap (λ n. get_or text n 0) no_more ∙ sym (get_or-drop len text 0 0) ∙ ap (λ (t : Text). get_or t 0 0) stop.1)),
      boundary_shift text len read here (stop.2 (IsUtf8-drop text len utf8 here)).0,
    )
  where
    no_more : len ≡ len + 0
    no_more = omega arith

-- the text after the backslash, cut out in one step
take-none : (n : ℕ) → ◌≡◌ {A = Text} (take n []) []
take-none zero = refl
take-none (suc n) = refl

drop_take : (n : ℕ) (text : Text) → drop 1 (take n text) ≡ take (n - 1) (drop 1 text)
drop_take zero text = refl
drop_take (suc n) [] = sym (take-none (suc n - 1))
drop_take (suc n) (b ∷ bs) = let same : n ≡ suc n - 1 = omega arith in ap (λ k. take k bs) same

pub read_after : (text : Text) (len read : ℕ) → take (len + read - (len + 1)) (drop (len + 1) text) ≡ drop 1 (take read (drop len text))
read_after text len read = search (rules, drop-sum, drop_take)

-- a literal that stops at a bad escape
pub bad_literal : (mode : Mode) (literal : Literal) (begin len read last : ℕ) (text : Text) → len ≡ body_len (body_at literal text) → (body_at literal text).stop ≡ BadEscape read last
    → pieces.literal mode literal.kind literal.opening begin text ≡ escape_fault (begin + len) (drop 1 (take read (drop len text)))
bad_literal mode literal begin len read last text same bad = rw (bad, same) refl

-- a literal that its quotes close
pub closing_literal : (mode : Mode) (literal : Literal) (begin len : ℕ) (text value : Text) → len ≡ body_len (body_at literal text) → value ≡ body_value (body_at literal text) → (body_at literal text).stop ≡ Closing
    → pieces.literal mode literal.kind literal.opening begin text ≡ pieces.token (begin + len + length (closing_quotes literal.opening)) (literal_token literal.kind value)
closing_literal mode literal begin len text value same denoted closing = rw (closing, same, denoted) refl

pub literal_own : (kind : Kind) (value : Text) → is_fstring_start (literal_token kind value) ≡ false
literal_own OfBytes value = refl
literal_own kind value = refl

-- A literal that an LF ends

-- it has one line
line_found : (literal : Literal) (b : ℕ) (bs : Text) → found_at literal (b ∷ bs) ≡ Stops Line → (b == 10 && not literal.opening.is_triple) ≡ true
unfolding found_at
line_found literal b bs =
    let P : Found → Type 0 = (λ found. found ≡ Stops Line → (b == 10 && not literal.opening.is_triple) ≡ true) in
    either P (starts_with nat_eq (b ∷ bs) (closing_quotes literal.opening)) _ _ (λ e. cc)
    (by_test P (b == 10 && not literal.opening.is_triple) _ _ (λ ends e. ends) (λ goes e. by_form (item_found literal (b ∷ bs)) e (item_found_is literal (b ∷ bs))))
  where
    by_form : (found : Found) → found ≡ Stops Line → FoundIs literal (b ∷ bs) found → (b == 10 && not literal.opening.is_triple) ≡ true
    by_form found e is =
        let stops : FoundIs literal (b ∷ bs) (Stops Line) = subst (FoundIs literal (b ∷ bs)) e is in
        rw (stops.0, ← (eqb-true 10 b (and_parts (nat_eq 10 b) true stops.1).0)) refl

-- so its text isn't plain
unplain : (opening : Opening) (b : ℕ) (bs : Text) → (b == 10 && not opening.is_triple) ≡ true → pieces.is_plain opening (b ∷ bs) ≡ false
unplain opening b bs ends = rw ends (by (b == 92) (b == 13))
  where
    by : (backslash return : Bool) → (not (backslash || return || true) && pieces.is_plain opening bs) ≡ false
    by true return = refl
    by false true = refl
    by false false = refl

line_unplain : (literal : Literal) (passed : ℕ) (text : Text) → (body_from literal passed text).stop ≡ Line → pieces.is_plain literal.opening text ≡ false
unfolding body_from
line_unplain literal (suc passed) (b ∷ bs) e = rw (line_unplain literal passed bs e) (and_right _ false refl)
line_unplain literal zero (b ∷ bs) e = go (found_at literal (b ∷ bs)) refl e (λ passed. line_unplain literal passed bs)
  where
    go : (found : Found) → found_at literal (b ∷ bs) ≡ found → (body_onward found (λ passed. body_from literal passed bs)).stop ≡ Line
        → ((passed : ℕ) → (body_from literal passed bs).stop ≡ Line → pieces.is_plain literal.opening bs ≡ false) → pieces.is_plain literal.opening (b ∷ bs) ≡ false
    go (Goes item) f e more = rw (more (item.len - 1) e) (and_right _ false refl)
    go (Stops stop) f e more = unplain literal.opening b bs (line_found literal b bs (f ∙ ap Stops e))
line_unplain literal passed [] e = cc

unfinished_line : (mode : Mode) (kind : Kind) (opening : Opening) (text : Text) → pieces.is_plain opening text ≡ false → pieces.unfinished mode kind opening text ≡ UnfinishedStringLiteral
unfinished_line (InText other) OfText opening text e = rw e refl
unfinished_line AtTop OfText opening text e = rw e refl
unfinished_line Deeper OfText opening text e = rw e refl
unfinished_line mode kind opening text e = refl

stops_unplain : (literal : Literal) (text : Text) → (body_at literal text).stop ≡ Line → pieces.is_plain literal.opening text ≡ false
unfolding body_at
stops_unplain literal text line = line_unplain literal 0 text line

pub line_literal : (mode : Mode) (literal : Literal) (begin len : ℕ) (text : Text) → len ≡ body_len (body_at literal text) → (body_at literal text).stop ≡ Line
    → pieces.literal mode literal.kind literal.opening begin text ≡ fault 0 UnfinishedStringLiteral (begin + len)
line_literal mode literal begin len text same line =
    rw (line, same) (ap (λ f. fault 0 f (begin + body_len (body_at literal text))) (unfinished_line mode literal.kind literal.opening text (stops_unplain literal text line)))

-- a character boundary is after two more quotes
pub triple_edge : (text : Text) (quote : Quote) → IsUtf8 text → starts_with nat_eq text (quote_byte quote ∷ quote_byte quote ∷ []) ≡ true → IsCharBoundary text 2
triple_edge text SingleQuote utf8 h = after_plain text (39 ∷ 39 ∷ []) (drop 2 text) utf8 (starts_split text (39 ∷ 39 ∷ []) h) refl
triple_edge text DoubleQuote utf8 h = after_plain text (34 ∷ 34 ∷ []) (drop 2 text) utf8 (starts_split text (34 ∷ 34 ∷ []) h) refl

-- a literal begins after its opener and the quotes that follow
pub opener_literal : (mode : Mode) (kind : Kind) (opening : Opening) (len quotes : ℕ) (remainder rest : Text) → kind ≢ OfFString → quotes ≡ pieces.more_quotes opening → rest ≡ drop quotes remainder → pieces.opener mode kind opening len remainder ≡ pieces.literal mode kind opening (len + quotes) rest
opener_literal mode OfText opening len quotes remainder rest other more e = rw (e, more) refl
opener_literal mode OfBytes opening len quotes remainder rest other more e = rw (e, more) refl
opener_literal mode OfFString opening len quotes remainder rest other more e = absurd (other refl)

-- a literal without two more quotes begins right after its opener
pub opener_plain : (mode : Mode) (kind : Kind) (opening : Opening) (len : ℕ) (remainder : Text) → kind ≢ OfFString → opening.is_triple ≡ false → pieces.opener mode kind opening len remainder ≡ pieces.literal mode kind opening len remainder
opener_plain mode kind opening len remainder other single =
    let none : 0 ≡ pieces.more_quotes opening = rw single refl in
    let same : len + 0 ≡ len = omega arith in
    opener_literal mode kind opening len 0 remainder remainder other none refl ∙ ap (λ n. pieces.literal mode kind opening n remainder) same
