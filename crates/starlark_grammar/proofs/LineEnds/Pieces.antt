-- Pieces in a text whose LFs are written as CR LF.
use Rattle.std.proofs.Common.{◌≡◌, ℕ, ◌+◌, Bool, true, false, List, [], ◌∷◌, ◌++◌, length, take, drop, refl, ap, ◌∙◌, sym, subst, None, arith, ◌⊎◌, inl, inr}
use Rattle.std.specs.Prelude.{◌&&◌, ◌||◌, ◌==◌, if◌then◌else◌, nat_eq, codes}
use Rattle.std.specs.List.{starts_with}
use Rattle.std.specs.Str.{byte}
use Rattle.std.proofs.Math.Seq.{drop-append_seam, drop-append-add, take-add}
use Rattle.std.proofs.lemmas.Bool.Decides.{nat_tests}
use Rattle.std.proofs.lemmas.List.{drop-take}
use Rattle.starlark_grammar.specs.declared.class.Class.TheVariants as word
use Rattle.starlark_grammar.specs.Words.{Text}
use Rattle.starlark_grammar.specs.declared.class.Quote.{Quote}
use Rattle.starlark_grammar.specs.declared.class.LiteralKind.{LiteralKind as Kind}
use Rattle.starlark_grammar.specs.declared.class.Class.{Class}
use Rattle.starlark_grammar.specs.declared.class.Quote.TheVariants.{Single as SingleQuote, Double as DoubleQuote}
use Rattle.starlark_grammar.specs.declared.class.LiteralKind.TheVariants.{Text as OfText, Bytes as OfBytes, FString as OfFString}
use Rattle.starlark_grammar.specs.Numbers.{integer_of}
use Rattle.starlark_grammar.specs.Tokens.{Token, Newline, Int, StartsZero, Opening, FStringStart, FStringExprStart, FStringEnd, Lexeme}
use Rattle.starlark_grammar.specs.Items.{Literal, Stop, Closing, Line, Ended, OpeningBrace, ClosingBrace, BadEscape, Body, body_len, body_value, body_at, quote_byte, closing_quotes}
use Rattle.starlark_grammar.specs.Depths.{Mode, Outside, InText}
use Rattle.starlark_grammar.specs.Margins.{margin_of, margin_len}
use Rattle.starlark_grammar.specs.LineEnds.{holds_escaped_newline}
use Rattle.starlark_grammar.specs.Pieces.{Before, Layout, Gap, Other, Piece, Step, Stands, Situation, fault, token, margin_step, opening_of, more_quotes, literal_token, escape_fault, literal_by, literal, opener, chunk_text, chunk_by, chunk, starts_zero, counts, word_step}
use Rattle.starlark_grammar.proofs.Lists.{drop-sum}
use Rattle.starlark_grammar.proofs.Words.Bytes.{is_plain}
use Rattle.starlark_grammar.proofs.WordNewlines.{in_line, line_fits}
use Rattle.starlark_grammar.proofs.Order.Edges.{StopAt, starts_split, stop_at}
use Rattle.starlark_grammar.proofs.Joining.FollowedBodies.{is_closed, closing_in_line}
use Rattle.starlark_grammar.proofs.Joining.FollowedPieces.{quotes_in_line}
use Rattle.starlark_grammar.proofs.Joining.Joined.{outside}
use Rattle.starlark_grammar.proofs.LineEnds.Texts.{crlf, no_return, no_return_drop, crlf_line, starts_crlf, after_crlf}
use Rattle.starlark_grammar.proofs.LineEnds.Bodies.{apart, apart_plain, BodyCrlf, RawApart, holds_drop, body_crlf}
use Rattle.starlark_grammar.proofs.LineEnds.Margins.{nodes, nodes_append, neutral, Left, Whole, AfterComments, PieceCrlf, margin_stands}

-- How the form of a text goes on after a piece: by the form of what is left, or from an LF on, after a line end that counts.
pub data LeftAt (mode : Mode) (piece : Piece) (text other : Text) : Type 0 where
  AtWhole : other ≡ crlf text → LeftAt mode piece text other
  AtFeed : (rest : Text) → text ≡ 10 ∷ rest → other ≡ 10 ∷ crlf rest → mode ≡ Outside → neutral piece.lexemes ≡ true → piece.sort ≡ Layout → LeftAt mode piece text other

-- A piece that stands stands in the form too, with the same tokens.
pub record StandsCrlf (mode : Mode) (text other : Text) (step : Step) (piece : Piece) : Type 0 where
  pub form : Piece
  pub stands : step ≡ Stands form
  pub like : PieceCrlf piece form
  pub left : LeftAt mode piece (drop piece.len text) (drop form.len other)

pub alike : (piece : Piece) → PieceCrlf piece piece
alike piece = record { same = refl; width = refl; sort = refl }

-- a piece that is a word in a line
lone_word : (mode : Mode) (front remainder : Text) (one other : Step) (piece : Piece) → in_line front ≡ true → one ≡ Stands piece → other ≡ one → piece.len ≡ length front → StandsCrlf mode (front ++ remainder) (crlf front ++ crlf remainder) other piece
lone_word mode front remainder one other piece line e same len = record {
  form = piece;
  stands = same ∙ e;
  like = alike piece;
  left = AtWhole (ap (λ n. drop n (crlf front ++ crlf remainder)) len ∙ ap (λ (t : Text). drop (length front) (t ++ crlf remainder)) (crlf_line front line) ∙ drop-append_seam front (crlf remainder)
      ∙ ap crlf (sym (ap (λ n. drop n (front ++ remainder)) len ∙ drop-append_seam front remainder)));
}

token_len : (len : ℕ) (node : Token) (piece : Piece) → token len node ≡ Stands piece → piece.len ≡ len
token_len len node piece e =
    let same : record { len = len; lexemes = record { begin = 0; node = node; end = len } ∷ []; width = None; sort = Other } ≡ piece = cc in sym (ap (λ (p : Piece). p.len) same)

plain_len : (len : ℕ) (sort : Before) (piece : Piece) → Stands (record { len = len; lexemes = []; width = None; sort = sort }) ≡ Stands piece → record { len = len; lexemes = []; width = None; sort = sort } ≡ piece
plain_len len sort piece e = cc

-- a piece that gives nothing
empty_word : (mode : Mode) (front made remainder : Text) (sort : Before) (piece : Piece) → Stands (record { len = length front; lexemes = []; width = None; sort = sort }) ≡ Stands piece
    → StandsCrlf mode (front ++ remainder) (made ++ crlf remainder) (Stands (record { len = length made; lexemes = []; width = None; sort = sort })) piece
empty_word mode front made remainder sort piece e =
    subst (StandsCrlf mode (front ++ remainder) (made ++ crlf remainder) (Stands (record { len = length made; lexemes = []; width = None; sort = sort }))) (plain_len (length front) sort piece e) (record {
      form = record { len = length made; lexemes = []; width = None; sort = sort };
      stands = refl;
      like = record { same = refl; width = refl; sort = refl };
      left = AtWhole (drop-append_seam made (crlf remainder) ∙ ap crlf (sym (drop-append_seam front remainder)));
    })

-- Literals

holds_front : (one other : Text) → holds_escaped_newline (one ++ other) ≡ false → holds_escaped_newline one ≡ false
holds_front [] other h = refl
holds_front (b ∷ one) other h = by (b == byte "\\") (starts_with nat_eq one (codes "\n")) refl (holds_front one other) h
  where
    starts_more : (one other : Text) → starts_with nat_eq one (codes "\n") ≡ true → starts_with nat_eq (one ++ other) (codes "\n") ≡ true
    starts_more [] other e = cc
    starts_more (c ∷ cs) other e = e

    by : (slash starts : Bool) → starts_with nat_eq one (codes "\n") ≡ starts → (holds_escaped_newline (one ++ other) ≡ false → holds_escaped_newline one ≡ false)
        → (slash && starts_with nat_eq (one ++ other) (codes "\n") || holds_escaped_newline (one ++ other)) ≡ false → (slash && starts || holds_escaped_newline one) ≡ false
    by false starts e more h = more h
    by true false e more h = more (second (starts_with nat_eq (one ++ other) (codes "\n")) h)
      where
        second : (test : Bool) → (test || holds_escaped_newline (one ++ other)) ≡ false → holds_escaped_newline (one ++ other) ≡ false
        second true h = cc
        second false h = h
    by true true e more h = let wrong : true ≡ false = sym (ap (λ (test : Bool). test || holds_escaped_newline (one ++ other)) (starts_more one other e)) ∙ h in cc

take_more : (n m : ℕ) (text : Text) → (rest : Text) × (take (n + m) text ≡ take n text ++ rest)
take_more n m text = (take m (drop n text), take-add n m text)

-- what closes a body, and the form of what is left after it
closed_left : (opening : Opening) (text other : Text) (len form : ℕ) → drop form other ≡ crlf (drop len text) → starts_with nat_eq (drop len text) (closing_quotes opening) ≡ true
    → drop (form + length (closing_quotes opening)) other ≡ crlf (drop (len + length (closing_quotes opening)) text)
closed_left opening text other len form left starts =
    drop-sum form (length (closing_quotes opening)) other ∙ ap (drop (length (closing_quotes opening))) left
    ∙ after_crlf (drop len text) (closing_quotes opening) (closing_in_line opening) starts
    ∙ ap crlf (sym (drop-sum len (length (closing_quotes opening)) text))

starts_made : (needle rest : Text) → starts_with nat_eq (needle ++ rest) needle ≡ true
starts_made [] rest = refl
starts_made (b ∷ bs) rest = rw (same b) (starts_made bs rest)
  where
    same : (b : ℕ) → nat_eq b b ≡ true
    same b = grind (arith, nat_tests)

closing_starts : (literal : Literal) (text : Text) → (body_at literal text).stop ≡ Closing → starts_with nat_eq (drop (body_len (body_at literal text)) text) (closing_quotes literal.opening) ≡ true
closing_starts literal text e =
    let here = subst (λ (stop : Stop). StopAt literal.opening (drop (body_len (body_at literal text)) text) stop) e (stop_at literal text) in
    subst (λ (t : Text). starts_with nat_eq t (closing_quotes literal.opening) ≡ true) (sym here) (starts_made (closing_quotes literal.opening) _)

escape_fails : (begin : ℕ) (text : Text) (piece : Piece) → escape_fault begin text ≡ Stands piece → ⊥
escape_fails begin [] piece e = cc
escape_fails begin (b ∷ bs) piece e = cc

-- a literal that stands is closed
literal_closed : (mode : Mode) (kind : Kind) (opening : Opening) (len : ℕ) (remainder : Text) (body : Body) (stop : Stop) (piece : Piece) → literal_by mode kind opening len remainder body stop ≡ Stands piece
    → (stop ≡ Closing) × (token (len + body_len body + length (closing_quotes opening)) (literal_token kind (body_value body)) ≡ Stands piece)
literal_closed mode kind opening len remainder body Closing piece e = (refl, e)
literal_closed mode kind opening len remainder body (BadEscape read last) piece e = absurd (escape_fails _ _ piece e)
literal_closed mode kind opening len remainder body Line piece e = cc
literal_closed mode kind opening len remainder body Ended piece e = cc
literal_closed mode kind opening len remainder body OpeningBrace piece e = cc
literal_closed mode kind opening len remainder body ClosingBrace piece e = cc

-- the token of a length, and the same of another
token_like : (len other : ℕ) (node : Token) (piece : Piece) → token len node ≡ Stands piece → PieceCrlf piece (record { len = other; lexemes = record { begin = 0; node = node; end = other } ∷ []; width = None; sort = Other })
token_like len other node piece e =
    let same : record { len = len; lexemes = record { begin = 0; node = node; end = len } ∷ []; width = None; sort = Other } ≡ piece = cc in
    subst (λ (p : Piece). PieceCrlf p (record { len = other; lexemes = record { begin = 0; node = node; end = other } ∷ []; width = None; sort = Other })) same (record { same = refl; width = refl; sort = refl })

literal_crlf : (mode : Mode) (kind : Kind) (opening : Opening) (len form : ℕ) (text whole other : Text) (piece : Piece) → no_return text ≡ true → apart 0 text ≡ true
    → drop len whole ≡ text → drop form other ≡ crlf text → (opening.is_raw ≡ true → holds_escaped_newline (take piece.len whole) ≡ false)
    → literal mode kind opening len text ≡ Stands piece → StandsCrlf mode whole other (literal mode kind opening form (crlf text)) piece
literal_crlf mode kind opening len form text whole other piece h more here there raw e =
    let is : Literal = record { kind = kind; opening = opening } in
    let closed = literal_closed mode kind opening len text (body_at (record { kind = kind; opening = opening }) text) (body_at (record { kind = kind; opening = opening }) text).stop piece e in
    let size = token_len (len + body_len (body_at (record { kind = kind; opening = opening }) text) + length (closing_quotes opening)) (literal_token kind (body_value (body_at (record { kind = kind; opening = opening }) text))) piece closed.1 in
    let found = body_crlf (record { kind = kind; opening = opening }) text h more (apart_body size) (ap is_closed closed.0) in
    let total : ℕ = form + body_len (body_at (record { kind = kind; opening = opening }) (crlf text)) + length (closing_quotes opening) in
    let step : literal mode kind opening form (crlf text) ≡ token total (literal_token kind (body_value (body_at (record { kind = kind; opening = opening }) text))) =
    ap (literal_by mode kind opening form (crlf text) (body_at (record { kind = kind; opening = opening }) (crlf text))) (found.stop ∙ closed.0) ∙ ap (λ (v : Text). token total (literal_token kind v)) found.value in
    record {
      form = record { len = total; lexemes = record { begin = 0; node = literal_token kind (body_value (body_at (record { kind = kind; opening = opening }) text)); end = total } ∷ []; width = None; sort = Other };
      stands = step;
      like = token_like _ total _ piece closed.1;
      left = AtWhole (closed_left opening whole other (len + body_len (body_at (record { kind = kind; opening = opening }) text)) (form + body_len (body_at (record { kind = kind; opening = opening }) (crlf text)))
          (drop-sum form (body_len (body_at (record { kind = kind; opening = opening }) (crlf text))) other ∙ ap (drop (body_len (body_at (record { kind = kind; opening = opening }) (crlf text)))) there ∙ found.left ∙ ap crlf (sym (after_body)))
          (subst (λ (t : Text). starts_with nat_eq t (closing_quotes opening) ≡ true) (sym after_body) (closing_starts (record { kind = kind; opening = opening }) text closed.0))
          ∙ ap (λ n. crlf (drop n whole)) (sym size));
    }
  where
    after_body : drop (len + body_len (body_at (record { kind = kind; opening = opening }) text)) whole ≡ drop (body_len (body_at (record { kind = kind; opening = opening }) text)) text
    after_body = drop-sum len (body_len (body_at (record { kind = kind; opening = opening }) text)) whole ∙ ap (drop (body_len (body_at (record { kind = kind; opening = opening }) text))) here

    apart_body : piece.len ≡ len + body_len (body_at (record { kind = kind; opening = opening }) text) + length (closing_quotes opening) → RawApart (record { kind = kind; opening = opening }) text (body_at (record { kind = kind; opening = opening }) text)
    apart_body size is_raw =
        let n : ℕ = body_len (body_at (record { kind = kind; opening = opening }) text) in
        let sum : piece.len ≡ len + (body_len (body_at (record { kind = kind; opening = opening }) text) + length (closing_quotes opening)) = omega (arith, size) in
        let dropped : drop len (take piece.len whole) ≡ take (body_len (body_at (record { kind = kind; opening = opening }) text) + length (closing_quotes opening)) text =
        ap (λ k. drop len (take k whole)) sum ∙ drop-take len (body_len (body_at (record { kind = kind; opening = opening }) text) + length (closing_quotes opening)) whole ∙ ap (take (body_len (body_at (record { kind = kind; opening = opening }) text) + length (closing_quotes opening))) here in
        let front = take_more (body_len (body_at (record { kind = kind; opening = opening }) text)) (length (closing_quotes opening)) text in
        holds_front (take (body_len (body_at (record { kind = kind; opening = opening }) text)) text) front.0
        (subst (λ (t : Text). holds_escaped_newline t ≡ false) (dropped ∙ front.1) (holds_drop len (take piece.len whole) (raw is_raw)))

-- Openers

opening_crlf : (is_raw : Bool) (quote : Quote) (remainder : Text) → opening_of is_raw quote (crlf remainder) ≡ opening_of is_raw quote remainder
opening_crlf is_raw quote remainder =
    ap (λ (triple : Bool). let opening : Opening = record { is_raw = is_raw; quote = quote; is_triple = triple } in opening) (starts_crlf remainder (quote_byte quote ∷ quote_byte quote ∷ []) (quotes_in_line quote))

-- after the quotes of an opening
quotes_left : (is_raw : Bool) (quote : Quote) (remainder : Text) → apart 0 remainder ≡ true
    → (drop (more_quotes (opening_of is_raw quote remainder)) (crlf remainder) ≡ crlf (drop (more_quotes (opening_of is_raw quote remainder)) remainder)) × (apart 0 (drop (more_quotes (opening_of is_raw quote remainder)) remainder) ≡ true)
quotes_left is_raw quote remainder more = by (starts_with nat_eq remainder (quote_byte quote ∷ quote_byte quote ∷ [])) refl
  where
    plain : (quote : Quote) → is_plain (take 2 (quote_byte quote ∷ quote_byte quote ∷ drop 2 remainder)) ≡ true
    plain SingleQuote = refl
    plain DoubleQuote = refl

    by : (starts : Bool) → starts_with nat_eq remainder (quote_byte quote ∷ quote_byte quote ∷ []) ≡ starts
        → (drop (if starts then 2 else 0) (crlf remainder) ≡ crlf (drop (if starts then 2 else 0) remainder)) × (apart 0 (drop (if starts then 2 else 0) remainder) ≡ true)
    by true e = (
      after_crlf remainder (quote_byte quote ∷ quote_byte quote ∷ []) (quotes_in_line quote) e,
      apart_plain 2 remainder (subst (λ (t : Text). is_plain (take 2 t) ≡ true) (sym (starts_split remainder (quote_byte quote ∷ quote_byte quote ∷ []) e)) (plain quote)) more,
    )
    by false e = (refl, more)

-- a raw literal of text or bytes
abbrev pub is_raw_kind : Kind → Bool → Bool
is_raw_kind OfFString is_raw = false
is_raw_kind kind is_raw = is_raw

module _ (mode : Mode) (is_raw : Bool) (quote : Quote) (front remainder : Text) (piece : Piece) (line : in_line front ≡ true) (h : no_return remainder ≡ true) (more : apart 0 remainder ≡ true) where
  opening : Opening
  opening = opening_of is_raw quote remainder

  size : crlf front ≡ front
  size = crlf_line front line

  same_opening : opening_of is_raw quote (crlf remainder) ≡ opening_of is_raw quote remainder
  same_opening = opening_crlf is_raw quote remainder

  here : drop (length front + more_quotes (opening_of is_raw quote remainder)) (front ++ remainder) ≡ drop (more_quotes (opening_of is_raw quote remainder)) remainder
  here = drop-append-add front remainder (more_quotes (opening_of is_raw quote remainder))

  there : drop (length front + more_quotes (opening_of is_raw quote remainder)) (crlf front ++ crlf remainder) ≡ crlf (drop (more_quotes (opening_of is_raw quote remainder)) remainder)
  there = ap (λ (t : Text). drop (length front + more_quotes (opening_of is_raw quote remainder)) (t ++ crlf remainder)) (crlf_line front line) ∙ drop-append-add front (crlf remainder) (more_quotes (opening_of is_raw quote remainder)) ∙ (quotes_left is_raw quote remainder more).0

  fstring_crlf : token (length front + more_quotes (opening_of is_raw quote remainder)) (FStringStart (opening_of is_raw quote remainder)) ≡ Stands piece
      → StandsCrlf mode (front ++ remainder) (crlf front ++ crlf remainder) (token (length (crlf front) + more_quotes (opening_of is_raw quote (crlf remainder))) (FStringStart (opening_of is_raw quote (crlf remainder)))) piece
  fstring_crlf e =
      let len = token_len (length front + more_quotes (opening_of is_raw quote remainder)) (FStringStart (opening_of is_raw quote remainder)) piece e in
      record {
        form = piece;
        stands = ap (λ (t : Text). token (length t + more_quotes (opening_of is_raw quote (crlf remainder))) (FStringStart (opening_of is_raw quote (crlf remainder)))) (crlf_line front line)
            ∙ ap (λ (o : Opening). token (length front + more_quotes o) (FStringStart o)) (opening_crlf is_raw quote remainder) ∙ e;
        like = alike piece;
        left = AtWhole (ap (λ n. drop n (crlf front ++ crlf remainder)) len ∙ there ∙ ap crlf (sym (ap (λ n. drop n (front ++ remainder)) len ∙ here)));
      }

  text_crlf : (kind : Kind) → (is_raw ≡ true → holds_escaped_newline (take piece.len (front ++ remainder)) ≡ false)
      → literal mode kind (opening_of is_raw quote remainder) (length front + more_quotes (opening_of is_raw quote remainder)) (drop (more_quotes (opening_of is_raw quote remainder)) remainder) ≡ Stands piece
      → StandsCrlf mode (front ++ remainder) (crlf front ++ crlf remainder) (literal mode kind (opening_of is_raw quote (crlf remainder)) (length (crlf front) + more_quotes (opening_of is_raw quote (crlf remainder))) (drop (more_quotes (opening_of is_raw quote (crlf remainder))) (crlf remainder))) piece
  text_crlf kind raw e =
      let quotes = more_quotes (opening_of is_raw quote remainder) in
      let found = literal_crlf mode kind (opening_of is_raw quote remainder) (length front + more_quotes (opening_of is_raw quote remainder)) (length front + more_quotes (opening_of is_raw quote remainder)) (drop (more_quotes (opening_of is_raw quote remainder)) remainder) (front ++ remainder) (crlf front ++ crlf remainder) piece
      (no_return_drop (more_quotes (opening_of is_raw quote remainder)) remainder h) (quotes_left is_raw quote remainder more).1 here there raw e in
      let step : literal mode kind (opening_of is_raw quote (crlf remainder)) (length (crlf front) + more_quotes (opening_of is_raw quote (crlf remainder))) (drop (more_quotes (opening_of is_raw quote (crlf remainder))) (crlf remainder))
      ≡ literal mode kind (opening_of is_raw quote remainder) (length front + more_quotes (opening_of is_raw quote remainder)) (crlf (drop (more_quotes (opening_of is_raw quote remainder)) remainder)) =
      ap (λ (t : Text). literal mode kind (opening_of is_raw quote (crlf remainder)) (length t + more_quotes (opening_of is_raw quote (crlf remainder))) (drop (more_quotes (opening_of is_raw quote (crlf remainder))) (crlf remainder))) (crlf_line front line)
      ∙ ap (λ (o : Opening). literal mode kind o (length front + more_quotes o) (drop (more_quotes o) (crlf remainder))) (opening_crlf is_raw quote remainder)
      ∙ ap (literal mode kind (opening_of is_raw quote remainder) (length front + more_quotes (opening_of is_raw quote remainder))) (quotes_left is_raw quote remainder more).0 in
      record { form = found.form; stands = step ∙ found.stands; like = found.like; left = found.left }

  opener_crlf : (kind : Kind) → (is_raw_kind kind is_raw ≡ true → holds_escaped_newline (take piece.len (front ++ remainder)) ≡ false) → opener mode kind (opening_of is_raw quote remainder) (length front) remainder ≡ Stands piece
      → StandsCrlf mode (front ++ remainder) (crlf front ++ crlf remainder) (opener mode kind (opening_of is_raw quote (crlf remainder)) (length (crlf front)) (crlf remainder)) piece
  opener_crlf OfFString raw e = fstring_crlf e
  opener_crlf OfText raw e = text_crlf OfText raw e
  opener_crlf OfBytes raw e = text_crlf OfBytes raw e

-- Words

abbrev pub is_raw_class : Class → Bool
is_raw_class (word.Opener kind is_raw quote) = is_raw_kind kind is_raw
is_raw_class class = false

decimal_len : (front : Text) (zero_first : Bool) (piece : Piece) → (if zero_first then fault 0 (StartsZero front) (length front) else token (length front) (Int (integer_of 10 front))) ≡ Stands piece → piece.len ≡ length front
decimal_len front true piece e = cc
decimal_len front false piece e = token_len (length front) (Int (integer_of 10 front)) piece e

pub line_end_crlf : (s : Situation) (front made remainder : Text) (piece : Piece) → no_return remainder ≡ true → word_step s word.LineEnd front remainder ≡ Stands piece
    → StandsCrlf s.mode (front ++ remainder) (made ++ crlf remainder) (word_step s word.LineEnd made (crlf remainder)) piece
line_end_crlf s front made remainder piece h e = by (counts s.mode s.is_balanced) refl e
  where
    line : ℕ → List Lexeme
    line len = record { begin = 0; node = Newline; end = len } ∷ []

    by : (counted : Bool) → counts s.mode s.is_balanced ≡ counted
        → (if counted then margin_step (length front) (line (length front)) s.levels (margin_of remainder) else Stands (record { len = length front; lexemes = []; width = None; sort = Other })) ≡ Stands piece
        → StandsCrlf s.mode (front ++ remainder) (made ++ crlf remainder) (if counted then margin_step (length made) (line (length made)) s.levels (margin_of (crlf remainder)) else Stands (record { len = length made; lexemes = []; width = None; sort = Other })) piece
    by false f e = empty_word s.mode front made remainder Other piece e
    by true f e =
        let found = margin_stands (length front) (length made) (line (length front)) (line (length made)) s.levels remainder piece h refl e refl in
        let here : drop piece.len (front ++ remainder) ≡ drop (margin_len (margin_of remainder)) remainder = ap (λ n. drop n (front ++ remainder)) found.len_is ∙ drop-append-add front remainder (margin_len (margin_of remainder)) in
        let there : drop found.form.len (made ++ crlf remainder) ≡ drop (margin_len (margin_of (crlf remainder))) (crlf remainder) = ap (λ n. drop n (made ++ crlf remainder)) found.form_len ∙ drop-append-add made (crlf remainder) (margin_len (margin_of (crlf remainder))) in
        record {
          form = found.form;
          stands = found.stands;
          like = found.like;
          left = subst (λ (t : Text). LeftAt s.mode piece t (drop found.form.len (made ++ crlf remainder))) (sym here) (subst (LeftAt s.mode piece (drop (margin_len (margin_of remainder)) remainder)) (sym there)
              (at (outside s.mode s.is_balanced f) found.sort found.outside found.left));
        }
      where
        at : {text other : Text} {content : Bool} → s.mode ≡ Outside → piece.sort ≡ Layout → (content ≡ false → neutral piece.lexemes ≡ true) → Left text other content → LeftAt s.mode piece text other
        at mode sort calm (Whole e) = AtWhole e
        at mode sort calm (AfterComments rest e f none) = AtFeed rest e f mode (calm none) sort

pub word_crlf : (s : Situation) (class : Class) (front remainder : Text) (piece : Piece) → line_fits class front ≡ true → no_return remainder ≡ true → apart 0 remainder ≡ true → (is_raw_class class ≡ true → holds_escaped_newline (take piece.len (front ++ remainder)) ≡ false)
    → word_step s class front remainder ≡ Stands piece → StandsCrlf s.mode (front ++ remainder) (crlf front ++ crlf remainder) (word_step s class (crlf front) (crlf remainder)) piece
word_crlf s word.Skipped front remainder piece fits h more raw e = empty_word s.mode front (crlf front) remainder Gap piece e
word_crlf s word.LineEnd front remainder piece fits h more raw e = line_end_crlf s front (crlf front) remainder piece h e
word_crlf s word.Tabs front remainder piece fits h more raw e = cc
word_crlf s word.Reserved front remainder piece fits h more raw e = cc
word_crlf s (word.Opener kind is_raw quote) front remainder piece fits h more raw e = opener_crlf s.mode is_raw quote front remainder piece fits h more kind raw e
word_crlf s word.Decimal front remainder piece fits h more raw e =
    lone_word s.mode front remainder _ _ piece fits e (ap (λ (t : Text). word_step s word.Decimal t remainder) (crlf_line front fits)) (decimal_len front (starts_zero front) piece e)
word_crlf s word.Comment front remainder piece fits h more raw e = lone_word s.mode front remainder _ _ piece fits e (ap (λ (t : Text). word_step s word.Comment t remainder) (crlf_line front fits)) (token_len (length front) _ piece e)
word_crlf s word.Identifier front remainder piece fits h more raw e = lone_word s.mode front remainder _ _ piece fits e (ap (λ (t : Text). word_step s word.Identifier t remainder) (crlf_line front fits)) (token_len (length front) _ piece e)
word_crlf s word.Hexadecimal front remainder piece fits h more raw e = lone_word s.mode front remainder _ _ piece fits e (ap (λ (t : Text). word_step s word.Hexadecimal t remainder) (crlf_line front fits)) (token_len (length front) _ piece e)
word_crlf s word.Octal front remainder piece fits h more raw e = lone_word s.mode front remainder _ _ piece fits e (ap (λ (t : Text). word_step s word.Octal t remainder) (crlf_line front fits)) (token_len (length front) _ piece e)
word_crlf s word.Binary front remainder piece fits h more raw e = lone_word s.mode front remainder _ _ piece fits e (ap (λ (t : Text). word_step s word.Binary t remainder) (crlf_line front fits)) (token_len (length front) _ piece e)
word_crlf s word.Float front remainder piece fits h more raw e = lone_word s.mode front remainder _ _ piece fits e (ap (λ (t : Text). word_step s word.Float t remainder) (crlf_line front fits)) (token_len (length front) _ piece e)
word_crlf s (word.Fixed terminal) front remainder piece fits h more raw e = lone_word s.mode front remainder _ _ piece fits e (ap (λ (t : Text). word_step s (word.Fixed terminal) t remainder) (crlf_line front fits)) (token_len (length front) _ piece e)

-- Texts of f-strings

chunk_nodes : (n m : ℕ) (value : Text) → nodes (chunk_text n value) ≡ nodes (chunk_text m value)
chunk_nodes n m [] = refl
chunk_nodes n m (b ∷ bs) = refl

abbrev made_chunk : Body → Token → ℕ → Piece
made_chunk body node len = record { len = body_len body + len; lexemes = chunk_text (body_len body) (body_value body) ++ record { begin = body_len body; node = node; end = body_len body + len } ∷ []; width = None; sort = Other }

chunk_closed : (opening : Opening) (text : Text) (body : Body) (stop : Stop) (piece : Piece) → chunk_by opening text body stop ≡ Stands piece
    → ((stop ≡ OpeningBrace) × (made_chunk body FStringExprStart 1 ≡ piece)) ⊎ ((stop ≡ Closing) × (made_chunk body FStringEnd (length (closing_quotes opening)) ≡ piece))
chunk_closed opening text body OpeningBrace piece e = inl (refl, stands_same _ piece e)
  where
    stands_same : (one other : Piece) → Stands one ≡ Stands other → one ≡ other
    stands_same one other e = cc
chunk_closed opening text body Closing piece e = inr (refl, stands_same _ piece e)
  where
    stands_same : (one other : Piece) → Stands one ≡ Stands other → one ≡ other
    stands_same one other e = cc
chunk_closed opening text body ClosingBrace piece e = cc
chunk_closed opening text body (BadEscape read last) piece e = cc
chunk_closed opening text body Line piece e = cc
chunk_closed opening text body Ended piece e = cc

pub chunk_crlf : (opening : Opening) (text : Text) (piece : Piece) → no_return text ≡ true → apart 0 text ≡ true → (opening.is_raw ≡ true → holds_escaped_newline (take piece.len text) ≡ false) → chunk opening text ≡ Stands piece
    → StandsCrlf (InText opening) text (crlf text) (chunk opening (crlf text)) piece
unfolding chunk
chunk_crlf opening text piece h more raw e = by (chunk_closed opening text (body_at (record { kind = OfFString; opening = opening }) text) (body_at (record { kind = OfFString; opening = opening }) text).stop piece e)
  where
    is : Literal
    is = record { kind = OfFString; opening = opening }

    raw_body : (k : ℕ) → piece.len ≡ body_len (body_at (record { kind = OfFString; opening = opening }) text) + k → RawApart (record { kind = OfFString; opening = opening }) text (body_at (record { kind = OfFString; opening = opening }) text)
    raw_body k size is_raw =
        let front = take_more (body_len (body_at (record { kind = OfFString; opening = opening }) text)) k text in
        holds_front (take (body_len (body_at (record { kind = OfFString; opening = opening }) text)) text) front.0 (subst (λ (t : Text). holds_escaped_newline t ≡ false) (ap (λ n. take n text) size ∙ front.1) (raw is_raw))

    made : (node : Token) (k : ℕ) → BodyCrlf (record { kind = OfFString; opening = opening }) text (body_at (record { kind = OfFString; opening = opening }) text)
        → made_chunk (body_at (record { kind = OfFString; opening = opening }) text) node k ≡ piece
        → chunk opening (crlf text) ≡ Stands (made_chunk (body_at (record { kind = OfFString; opening = opening }) (crlf text)) node k)
        → drop (body_len (body_at (record { kind = OfFString; opening = opening }) (crlf text)) + k) (crlf text) ≡ crlf (drop (body_len (body_at (record { kind = OfFString; opening = opening }) text) + k) text)
        → StandsCrlf (InText opening) text (crlf text) (chunk opening (crlf text)) piece
    made node k found same stands left =
        subst (StandsCrlf (InText opening) text (crlf text) (chunk opening (crlf text))) same (record {
          form = made_chunk (body_at (record { kind = OfFString; opening = opening }) (crlf text)) node k;
          stands = stands;
          like = record {
            same = tokens (body_at (record { kind = OfFString; opening = opening }) (crlf text)) (body_at (record { kind = OfFString; opening = opening }) text) found.value;
            width = refl;
            sort = refl;
          };
          left = AtWhole left;
        })
      where
        tokens : (one other : Body) → body_value one ≡ body_value other → nodes (made_chunk one node k).lexemes ≡ nodes (made_chunk other node k).lexemes
        tokens one other e =
            nodes_append (chunk_text (body_len one) (body_value one)) (record { begin = body_len one; node = node; end = body_len one + k } ∷ [])
            ∙ ap (λ ts. ts ++ node ∷ []) (ap (λ (v : Text). nodes (chunk_text (body_len one) v)) e ∙ chunk_nodes (body_len one) (body_len other) (body_value other))
            ∙ sym (nodes_append (chunk_text (body_len other) (body_value other)) (record { begin = body_len other; node = node; end = body_len other + k } ∷ []))

    by : (((body_at (record { kind = OfFString; opening = opening }) text).stop ≡ OpeningBrace) × (made_chunk (body_at (record { kind = OfFString; opening = opening }) text) FStringExprStart 1 ≡ piece))
        ⊎ (((body_at (record { kind = OfFString; opening = opening }) text).stop ≡ Closing) × (made_chunk (body_at (record { kind = OfFString; opening = opening }) text) FStringEnd (length (closing_quotes opening)) ≡ piece))
        → StandsCrlf (InText opening) text (crlf text) (chunk opening (crlf text)) piece
    by (inl parts) =
        let found = body_crlf (record { kind = OfFString; opening = opening }) text h more (raw_body 1 (sym (ap (λ (p : Piece). p.len) parts.1))) (ap is_closed parts.0) in
        let at = subst (λ (stop : Stop). StopAt opening (drop (body_len (body_at (record { kind = OfFString; opening = opening }) text)) text) stop) parts.0 (stop_at (record { kind = OfFString; opening = opening }) text) in
        made FStringExprStart 1 found parts.1 (ap (chunk_by opening (crlf text) (body_at (record { kind = OfFString; opening = opening }) (crlf text))) (found.stop ∙ parts.0))
        (drop-sum (body_len (body_at (record { kind = OfFString; opening = opening }) (crlf text))) 1 (crlf text) ∙ ap (drop 1) (found.left ∙ ap crlf at.1)
        ∙ ap crlf (sym (drop-sum (body_len (body_at (record { kind = OfFString; opening = opening }) text)) 1 text ∙ ap (drop 1) at.1)))
    by (inr parts) =
        let found = body_crlf (record { kind = OfFString; opening = opening }) text h more (raw_body (length (closing_quotes opening)) (sym (ap (λ (p : Piece). p.len) parts.1))) (ap is_closed parts.0) in
        made FStringEnd (length (closing_quotes opening)) found parts.1 (ap (chunk_by opening (crlf text) (body_at (record { kind = OfFString; opening = opening }) (crlf text))) (found.stop ∙ parts.0))
        (closed_left opening text (crlf text) (body_len (body_at (record { kind = OfFString; opening = opening }) text)) (body_len (body_at (record { kind = OfFString; opening = opening }) (crlf text))) found.left (closing_starts (record { kind = OfFString; opening = opening }) text parts.0))
