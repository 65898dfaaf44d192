-- A `Newline` of some bytes among a text's lexemes: it begins the piece of a line end that counts.
use Rattle.std.proofs.Common.{◌≡◌, ℕ, zero, suc, ◌+◌, ◌<◌, Bool, true, false, List, [], ◌∷◌, ◌++◌, length, take, drop, map, refl, ap, ◌∙◌, sym, subst, Option, Some, None, arith, append_assoc, append-nil}
use Rattle.std.specs.Prelude.{⊤, ◌&&◌, ◌||◌, not, if◌then◌else◌, replicate, count_by, nat_lt}
use Rattle.std.specs.List.{list_all}
use Rattle.std.proofs.lemmas.Bool.{and_parts}
use Rattle.std.proofs.lemmas.List.{length-take-le}
use Rattle.std.proofs.lemmas.List.Sums.{sum_by-cons}
use Rattle.starlark_grammar.specs.declared.class.Class.{Class}
use Rattle.starlark_grammar.specs.declared.class.Class.TheVariants as word
use Rattle.starlark_grammar.specs.declared.class.LiteralKind.{LiteralKind as Kind}
use Rattle.starlark_grammar.specs.declared.class.LiteralKind.TheVariants.{Text as OfText, Bytes as OfBytes, FString as OfFString}
use Rattle.starlark_grammar.specs.declared.class.Terminal.{Terminal}
use Rattle.starlark_grammar.specs.declared.class.Terminal.TheVariants as terminal
use Rattle.starlark_grammar.specs.Words.{Text, class_in, language}
use Rattle.starlark_grammar.specs.Front.{longest_front}
use Rattle.starlark_grammar.specs.Numbers.{integer_of}
use Rattle.starlark_grammar.specs.Tokens.{Token, Opening, Lexeme, moved, Int, Indent, Dedent, Newline, StartsZero, Outcome, FStringBang, FStringEnd, FStringExprStart, InvalidTab, Indentation}
use Rattle.starlark_grammar.specs.Items.{Stop, Closing, Line, Ended, OpeningBrace, ClosingBrace, BadEscape, Body, body_len, body_value, closing_quotes}
use Rattle.starlark_grammar.specs.Depths.{Mode, AtTop, is_balanced, mode_after}
use Rattle.starlark_grammar.specs.Margins.{Margin, margin_of, margin_len, is_content, has_tab, width_of, fits, is_widest, indentation, open_widths}
use Rattle.starlark_grammar.specs.Pieces.{Before, Nothing, Layout, Gap, Other, Piece, Step, Stands, Fails, Ends, Situation, fault, token, margin_step, line_end, literal_by, opener, chunk_text, chunk_piece, chunk_by, chunk, terminal_token, counts, starts_zero, word_step, front_step, takes_bang, is_bang, in_code, by_mode, by_before, step_at, opening_of}
use Rattle.starlark_grammar.specs.Reading.{History, after, after_all, situation, next_step, pieces_len, lexemes_along, lexemes_before, closing, reading_outcome, outcome_after}
use Rattle.starlark_grammar.specs.Longest.{IsReading}
use Rattle.starlark_grammar.specs.Cuts.{is_layout, is_newline}
use Rattle.starlark_grammar.proofs.Literals.LiteralSteps.{by_mode_holds, chunk_holds, opener_holds, escape_holds}
use Rattle.starlark_grammar.proofs.MarginComments.{margin_holds}
use Rattle.starlark_grammar.proofs.Lists.{drop-sum}
use Rattle.starlark_grammar.proofs.Choices.{either}
use Rattle.starlark_grammar.proofs.Words.Fronts.{front_sound}
use Rattle.starlark_grammar.proofs.Reading.Steps.{is_nothing}
use Rattle.starlark_grammar.proofs.Reading.Onward.{first_step_after, last_after, longest_after, outcome_is, pieces_after}
use Rattle.starlark_grammar.proofs.Reading.Readings.{piece_fits, started}
use Rattle.starlark_grammar.proofs.Joining.Joined.{counted_end}
use Rattle.starlark_grammar.proofs.Joining.LaidCuts.{line_of}
use Rattle.starlark_grammar.proofs.Order.OrderedLexemes.{some_lexemes_before}
use Rattle.starlark_grammar.specs.Joining.{begins_undented, has_newline, is_dedent}

-- Lexemes of which none is a `Newline`

or_none : (one other : Bool) → (one || other) ≡ false → (one ≡ false) × (other ≡ false)
or_none true other h = cc
or_none false other h = (refl, h)

none_append : (xs ys : List Lexeme) → has_newline xs ≡ false → has_newline ys ≡ false → has_newline (xs ++ ys) ≡ false
none_append [] ys h k = k
none_append (x ∷ xs) ys h k = let parts = or_none (is_newline x.node) (has_newline xs) h in rw (parts.0) (none_append xs ys parts.1 k)

none_moved : (n : ℕ) (xs : List Lexeme) → has_newline xs ≡ false → has_newline (map (moved n) xs) ≡ false
none_moved n [] h = refl
none_moved n (x ∷ xs) h = let parts = or_none (is_newline x.node) (has_newline xs) h in rw (parts.0) (none_moved n xs parts.1)

pub none_repeated : (k : ℕ) (x : Lexeme) → is_newline x.node ≡ false → has_newline (replicate k x) ≡ false
none_repeated zero x h = refl
none_repeated (suc k) x h = rw h (none_repeated k x h)

margin_none : (text : Text) → has_newline (margin_of text).comments ≡ false
margin_none = margin_holds (λ ls. has_newline ls ≡ false) refl (λ at line rest h. h)

indentation_none : (levels : List ℕ) (margin : Margin) → has_newline (indentation levels margin) ≡ false
unfolding indentation
indentation_none levels margin = go (nat_lt 0 (width_of margin) && is_widest (width_of margin) levels)
  where
    go : (widest : Bool) → has_newline (if widest then record { begin = margin.at; node = Indent; end = margin_len margin } ∷ [] else replicate (count_by (nat_lt (width_of margin)) levels) (record { begin = margin.at; node = Dedent; end = margin.at })) ≡ false
    go true = refl
    go false = none_repeated (count_by (nat_lt (width_of margin)) levels) (record { begin = margin.at; node = Dedent; end = margin.at }) refl

-- one is there
pub newline_there : (front : List Lexeme) (x : Lexeme) (rest : List Lexeme) → is_newline x.node ≡ true → has_newline (front ++ (x ∷ rest)) ≡ true
newline_there [] x rest is = rw is refl
newline_there (y ∷ front) x rest is = or_true (is_newline y.node) (has_newline (front ++ (x ∷ rest))) (newline_there front x rest is)
  where
    or_true : (one other : Bool) → other ≡ true → (one || other) ≡ true
    or_true true other h = refl
    or_true false other h = h

none_there : (xs front : List Lexeme) (x : Lexeme) (rest : List Lexeme) → has_newline xs ≡ false → xs ≡ front ++ (x ∷ rest) → is_newline x.node ≡ true → ⊥
none_there xs front x rest none e is = let both : false ≡ true = sym none ∙ ap has_newline e ∙ newline_there front x rest is in cc

-- after the first lexeme none
first_alone : (x : Lexeme) (xs front : List Lexeme) (y : Lexeme) (rest : List Lexeme) → has_newline xs ≡ false → x ∷ xs ≡ front ++ (y ∷ rest) → is_newline y.node ≡ true → (front ≡ []) × (x ≡ y) × (xs ≡ rest)
first_alone x xs [] y rest none e is =
    let same : x ≡ y = cc in
    let more : xs ≡ rest = cc in
    (refl, same, more)
first_alone x xs (z ∷ front) y rest none e is = let more : xs ≡ front ++ (y ∷ rest) = cc in absurd (none_there xs front y rest none more is)

-- Pieces without a `Newline` and without a `Dedent`

abbrev is_plain : Lexeme → Bool
is_plain lexeme = not (is_newline lexeme.node || is_dedent lexeme.node)

abbrev PlainStep : Step → Type 0
PlainStep (Stands piece) = (is_layout piece.sort || list_all is_plain piece.lexemes) ≡ true
PlainStep (Fails fault) = ⊤
PlainStep Ends = ⊤

token_plain : (len : ℕ) (node : Token) → is_newline node ≡ false → is_dedent node ≡ false → PlainStep (token len node)
token_plain len node h k = rw (h, k) refl

literal_plain : (mode : Mode) (kind : Kind) (opening : Opening) (len : ℕ) (rest : Text) (body : Body) (stop : Stop) → PlainStep (literal_by mode kind opening len rest body stop)
literal_plain mode OfText opening len rest body Closing = refl
literal_plain mode OfBytes opening len rest body Closing = refl
literal_plain mode OfFString opening len rest body Closing = refl
literal_plain mode kind opening len rest body (BadEscape read last) = escape_holds PlainStep _ _ (λ end. tt) (λ escape end. tt)
literal_plain mode kind opening len rest body stop = tt

opener_plain : (mode : Mode) (kind : Kind) (opening : Opening) (len : ℕ) (rest : Text) → PlainStep (opener mode kind opening len rest)
opener_plain mode kind opening len rest = opener_holds PlainStep mode kind opening len rest refl (λ len rest body stop. literal_plain mode kind opening len rest body stop)

chunk_piece_plain : (body : Body) (node : Token) (len : ℕ) → is_newline node ≡ false → is_dedent node ≡ false → PlainStep (chunk_piece body node len)
chunk_piece_plain body node len h k = go (body_value body)
  where
    go : (value : Text) → list_all is_plain (chunk_text (body_len body) value ++ record { begin = body_len body; node = node; end = body_len body + len } ∷ []) ≡ true
    go [] = rw (h, k) refl
    go (b ∷ bs) = rw (h, k) refl

chunk_by_plain : (opening : Opening) (text : Text) (body : Body) (stop : Stop) → PlainStep (chunk_by opening text body stop)
chunk_by_plain opening text body OpeningBrace = chunk_piece_plain body FStringExprStart 1 refl refl
chunk_by_plain opening text body Closing = chunk_piece_plain body FStringEnd (length (closing_quotes opening)) refl refl
chunk_by_plain opening text body ClosingBrace = tt
chunk_by_plain opening text body (BadEscape read last) = tt
chunk_by_plain opening text body Line = tt
chunk_by_plain opening text body Ended = tt

chunk_plain : (opening : Opening) (text : Text) → PlainStep (chunk opening text)
chunk_plain opening text = chunk_holds PlainStep opening text (chunk_by_plain opening text)

terminal_plain : (mode : Mode) (token : Terminal) → (is_newline (terminal_token mode token) ≡ false) × (is_dedent (terminal_token mode token) ≡ false)
terminal_plain AtTop terminal.ClosingCurly = (refl, refl)
terminal_plain mode token = (refl, refl)

margin_plain : (len : ℕ) (line : List Lexeme) (levels : List ℕ) (margin : Margin) → PlainStep (margin_step len line levels margin)
unfolding margin_step
margin_plain len line levels margin =
    either PlainStep (not (is_content margin.remainder)) _ _ refl
    (either PlainStep (has_tab margin) _ _ tt
    (either PlainStep (fits (width_of margin) levels) _ _ refl tt))

word_plain : (s : Situation) (class : Class) (front rest : Text) → PlainStep (word_step s class front rest)
word_plain s word.Skipped front rest = refl
word_plain s word.Comment front rest = refl
word_plain s word.Tabs front rest = tt
word_plain s word.LineEnd front rest = either PlainStep (counts s.mode s.is_balanced) _ _ (margin_plain _ _ _ _) refl
word_plain s (word.Opener kind is_raw quote) front rest = opener_plain s.mode kind (opening_of is_raw quote rest) (length front) rest
word_plain s word.Reserved front rest = tt
word_plain s word.Identifier front rest = refl
word_plain s word.Decimal front rest = either PlainStep (starts_zero front) (fault 0 (StartsZero front) (length front)) (token (length front) (Int (integer_of 10 front))) tt refl
word_plain s word.Hexadecimal front rest = refl
word_plain s word.Octal front rest = refl
word_plain s word.Binary front rest = refl
word_plain s word.Float front rest = refl
word_plain s (word.Fixed token) front rest = let both = terminal_plain s.mode token in token_plain (length front) (terminal_token s.mode token) both.0 both.1

front_plain : (s : Situation) (text : Text) (found : Option (Class × ℕ)) → PlainStep (front_step s text found)
front_plain s text None = tt
front_plain s text (Some front) = word_plain s front.0 (take front.1 text) (drop front.1 text)

code_plain : (s : Situation) (text : Text) → PlainStep (in_code language s text)
code_plain s [] = tt
code_plain s (b ∷ bs) = either PlainStep (takes_bang s.mode s.before && is_bang (b ∷ bs)) (token 1 FStringBang) (front_step s (b ∷ bs) (longest_front (class_in language) (b ∷ bs))) refl (front_plain s (b ∷ bs) (longest_front (class_in language) (b ∷ bs)))

mode_plain : (s : Situation) (mode : Mode) (text : Text) → PlainStep (by_mode language s mode text)
mode_plain s mode text = by_mode_holds PlainStep s mode text (code_plain s text) (λ opening. chunk_plain opening text)

before_plain : (s : Situation) (before : Before) (text : Text) → PlainStep (by_before language s before text)
before_plain s Nothing text = margin_plain 0 [] s.levels (margin_of text)
before_plain s Layout text = mode_plain s s.mode text
before_plain s Gap text = mode_plain s s.mode text
before_plain s Other text = mode_plain s s.mode text

-- of a piece that is no margin's all lexemes are plain
piece_plain : (history : History) (text : Text) (piece : Piece) → next_step language history text ≡ Stands piece → is_layout piece.sort ≡ false → list_all is_plain piece.lexemes ≡ true
unfolding next_step situation step_at
piece_plain history text piece e other = let all : (is_layout piece.sort || list_all is_plain piece.lexemes) ≡ true = subst PlainStep e (before_plain (situation history) history.before text) in rw other at all

not_either : (one other : Bool) → not (one || other) ≡ true → (one ≡ false) × (other ≡ false)
not_either true other h = cc
not_either false true h = cc
not_either false false h = (refl, refl)

plain_none : (xs : List Lexeme) → list_all is_plain xs ≡ true → has_newline xs ≡ false
plain_none [] h = refl
plain_none (x ∷ xs) h =
    let parts = and_parts (is_plain x) (list_all is_plain xs) h in
    let one = not_either (is_newline x.node) (is_dedent x.node) parts.0 in
    rw (one.0) (plain_none xs parts.1)

plain_undented : (xs : List Lexeme) → list_all is_plain xs ≡ true → begins_undented xs ≡ true
plain_undented [] h = refl
plain_undented (x ∷ xs) h =
    let parts = and_parts (is_plain x) (list_all is_plain xs) h in
    let one = not_either (is_newline x.node) (is_dedent x.node) parts.0 in
    ap not one.1

-- The piece of a margin

-- lexemes after a line end, and no `Newline` among them
pub record LineLexemes (line lexemes : List Lexeme) : Type 0 where
  others : List Lexeme
  whole : lexemes ≡ line ++ others
  none : has_newline others ≡ false

margin_lexemes : (len : ℕ) (line : List Lexeme) (levels : List ℕ) (margin : Margin) (piece : Piece) → has_newline margin.comments ≡ false → margin_step len line levels margin ≡ Stands piece → LineLexemes line piece.lexemes
unfolding margin_step
margin_lexemes len line levels margin piece comments e = go (not (is_content margin.remainder)) (has_tab margin) (fits (width_of margin) levels) (indentation levels margin) (indentation_none levels margin) e
  where
    made : List Lexeme → Option ℕ → Piece
    made indents width = record { len = len + margin_len margin; lexemes = line ++ map (moved len) (margin.comments ++ indents); width = width; sort = Layout }

    stands : (indents : List Lexeme) (width : Option ℕ) → has_newline indents ≡ false → Stands (made indents width) ≡ Stands piece → LineLexemes line piece.lexemes
    stands indents width h e =
        let same : made indents width ≡ piece = cc in
        record { others = map (moved len) (margin.comments ++ indents); whole = sym (ap (λ (p : Piece). p.lexemes) same); none = none_moved len (margin.comments ++ indents) (none_append margin.comments indents comments h) }

    go : (blank tab fitting : Bool) (indents : List Lexeme) → has_newline indents ≡ false
        → (if blank then Stands (made [] None) else (if tab then Fails (record { begin = 0; node = InvalidTab; end = 0 }) else (if fitting then Stands (made indents (Some (width_of margin))) else Fails (record { begin = 0; node = Indentation; end = len + margin_len margin })))) ≡ Stands piece → LineLexemes line piece.lexemes
    go true tab fitting indents h e = stands [] None refl e
    go false true fitting indents h e = cc
    go false false true indents h e = stands indents (Some (width_of margin)) h e
    go false false false indents h e = cc

-- a line end that counts, with its lexemes
pub record LinePiece (history : History) (text : Text) (piece : Piece) : Type 0 where
  pub n : ℕ
  counted : counts (mode_after history.tokens) (is_balanced history.tokens) ≡ true
  pub found : longest_front (class_in language) text ≡ Some (word.LineEnd, n)
  pub stands : margin_step n (line_of n) (open_widths history.widths) (margin_of (drop n text)) ≡ Stands piece
  parts : LineLexemes (line_of n) piece.lexemes

pub line_piece : (history : History) (text : Text) (piece : Piece) → is_nothing history.before ≡ false → next_step language history text ≡ Stands piece → is_layout piece.sort ≡ true → LinePiece history text piece
unfolding next_step situation
line_piece history text piece begun e laid =
    let end = counted_end (situation history) text piece laid begun e in
    let sound = front_sound (class_in language) text word.LineEnd end.len end.front in
    let len : length (take end.len text) ≡ end.len = length-take-le end.len text sound.1 in
    let stands = subst (λ k. line_end k (open_widths history.widths) (drop end.len text) ≡ Stands piece) len end.stands in
    record {
      n = end.len;
      counted = end.counted;
      found = end.front;
      stands = stands;
      parts = margin_lexemes end.len (line_of end.len) (open_widths history.widths) (margin_of (drop end.len text)) piece (margin_none (drop end.len text)) stands;
    }

-- No piece but a text's first begins with a `Dedent`.
piece_undented : (history : History) (text : Text) (piece : Piece) → is_nothing history.before ≡ false → next_step language history text ≡ Stands piece → begins_undented piece.lexemes ≡ true
piece_undented history text piece begun e = go (is_layout piece.sort) refl
  where
    go : (laid : Bool) → is_layout piece.sort ≡ laid → begins_undented piece.lexemes ≡ true
    go true laid = let line = line_piece history text piece begun e laid in ap begins_undented line.parts.whole
    go false laid = plain_undented piece.lexemes (piece_plain history text piece e laid)

along_undented : (history : History) (text : Text) (pieces : List Piece) (at : ℕ) (tail : List Lexeme) → is_nothing history.before ≡ false → IsReading language history text pieces → begins_undented tail ≡ true → begins_undented (lexemes_along at pieces ++ tail) ≡ true
along_undented history text [] at tail begun reads h = h
along_undented history text (piece ∷ pieces) at tail begun reads h =
    go piece.lexemes (piece_undented history text piece begun reads.0)
    (along_undented (after history piece) (drop piece.len text) pieces (at + piece.len) tail (started history piece (piece_fits language history text piece reads.0).sort) reads.1 h)
  where
    go : (lexemes : List Lexeme) → begins_undented lexemes ≡ true → begins_undented (lexemes_along (at + piece.len) pieces ++ tail) ≡ true → begins_undented ((map (moved at) lexemes ++ lexemes_along (at + piece.len) pieces) ++ tail) ≡ true
    go [] one more = more
    go (x ∷ xs) one more = one

-- Where a lexeme of two lists is

data InEither {A : Type 0} (xs ys front : List A) (x : A) (rest : List A) : Type 0 where
  InFirst : (more : List A) → xs ≡ front ++ (x ∷ more) → rest ≡ more ++ ys → InEither xs ys front x rest
  InSecond : (later : List A) → front ≡ xs ++ later → ys ≡ later ++ (x ∷ rest) → InEither xs ys front x rest

in_either : {A : Type 0} (xs ys front : List A) (x : A) (rest : List A) → xs ++ ys ≡ front ++ (x ∷ rest) → InEither xs ys front x rest
in_either [] ys front x rest e = InSecond front refl e
in_either (y ∷ xs) ys [] x rest e =
    let same : y ≡ x = cc in
    let more : xs ++ ys ≡ rest = cc in
    InFirst xs (ap (λ z. z ∷ xs) same) (sym more)
in_either {A} (y ∷ xs) ys (z ∷ front) x rest e =
    let same : y ≡ z = cc in
    let more : xs ++ ys ≡ front ++ (x ∷ rest) = cc in
    go same (in_either xs ys front x rest more)
  where
    go : y ≡ z → InEither xs ys front x rest → InEither (y ∷ xs) ys (z ∷ front) x rest
    go same (InFirst more f g) = InFirst more (ap (λ ws. y ∷ ws) f ∙ ap (λ w. w ∷ (front ++ (x ∷ more))) same) g
    go same (InSecond later f g) = InSecond later (ap (λ w. w ∷ front) (sym same) ∙ ap (λ ws. y ∷ ws) f) g

-- A `Newline` of some bytes

-- the pieces before it, the line end that it is, and what comes after it
pub record NewlineAt (history : History) (text : Text) (at : ℕ) (front : List Lexeme) (newline : Lexeme) (rest : List Lexeme) : Type 0 where
  pub earlier : List Piece
  pub piece : Piece
  pub n : ℕ
  pub others : List Lexeme
  pub more : List Lexeme
  pub reads : IsReading language history text earlier
  pub begun : is_nothing (after_all history earlier).before ≡ false
  pub counted : counts (mode_after (after_all history earlier).tokens) (is_balanced (after_all history earlier).tokens) ≡ true
  pub found : longest_front (class_in language) (drop (pieces_len earlier) text) ≡ Some (word.LineEnd, n)
  pub stands : margin_step n (line_of n) (open_widths (after_all history earlier).widths) (margin_of (drop n (drop (pieces_len earlier) text))) ≡ Stands piece
  pub lexemes : piece.lexemes ≡ line_of n ++ others
  pub front_is : front ≡ lexemes_along at earlier
  pub newline_is : newline ≡ moved (at + pieces_len earlier) (record { begin = 0; node = Newline; end = n })
  pub rest_is : rest ≡ map (moved (at + pieces_len earlier)) others ++ more
  pub undented : begins_undented more ≡ true

drop_first : (first : Piece) (earlier : List Piece) (text : Text) → drop (pieces_len (first ∷ earlier)) text ≡ drop (pieces_len earlier) (drop first.len text)
drop_first first earlier text = ap (λ n. drop n text) (sum_by-cons (λ (piece : Piece). piece.len) first earlier) ∙ drop-sum first.len (pieces_len earlier) text

-- one piece more before it
one_earlier : (history : History) (text : Text) (piece : Piece) (at : ℕ) (front later : List Lexeme) (newline : Lexeme) (rest : List Lexeme) → next_step language history text ≡ Stands piece → front ≡ map (moved at) piece.lexemes ++ later
    → NewlineAt (after history piece) (drop piece.len text) (at + piece.len) later newline rest → NewlineAt history text at front newline rest
one_earlier history text first at front later newline rest stands same found =
    let left : drop (pieces_len (first ∷ found.earlier)) text ≡ drop (pieces_len found.earlier) (drop first.len text) = drop_first first found.earlier text in
    let total : at + first.len + pieces_len found.earlier ≡ at + pieces_len (first ∷ found.earlier) = omega (arith, sum_by-cons (λ (piece : Piece). piece.len) first found.earlier) in
    record {
      earlier = first ∷ found.earlier;
      piece = found.piece;
      n = found.n;
      others = found.others;
      more = found.more;
      reads = (stands, found.reads);
      begun = found.begun;
      counted = found.counted;
      found = ap (longest_front (class_in language)) left ∙ found.found;
      stands = ap (λ (t : Text). margin_step found.n (line_of found.n) (open_widths (after_all (after history first) found.earlier).widths) (margin_of (drop found.n t))) left ∙ found.stands;
      lexemes = found.lexemes;
      front_is = same ∙ ap (λ ls. map (moved at) first.lexemes ++ ls) found.front_is;
      newline_is = found.newline_is ∙ ap (λ k. moved k (record { begin = 0; node = Newline; end = found.n })) total;
      rest_is = found.rest_is ∙ ap (λ k. map (moved k) found.others ++ found.more) total;
      undented = found.undented;
    }

-- no `Newline` of some bytes is there
abbrev IsNarrow : List Lexeme → Type 0
IsNarrow tail = (front : List Lexeme) (newline : Lexeme) (rest : List Lexeme) → tail ≡ front ++ (newline ∷ rest) → is_newline newline.node ≡ true → newline.begin < newline.end → ⊥

none_narrow : (tail : List Lexeme) → has_newline tail ≡ false → IsNarrow tail
none_narrow tail none front newline rest e is some = none_there tail front newline rest none e is

closing_narrow : (at : ℕ) (history : History) → IsNarrow (closing at history)
closing_narrow at history front newline rest e is some =
    let dedents = none_repeated (length (open_widths history.widths)) (record { begin = at; node = Dedent; end = at }) refl in
    let first = first_alone (record { begin = at; node = Newline; end = at }) (replicate (length (open_widths history.widths)) (record { begin = at; node = Dedent; end = at })) front newline rest dedents e is in
    omega (arith, some, ap (λ (l : Lexeme). l.begin) first.1, ap (λ (l : Lexeme). l.end) first.1)

located : (history : History) (text : Text) (pieces : List Piece) (at : ℕ) (tail front : List Lexeme) (newline : Lexeme) (rest : List Lexeme) → is_nothing history.before ≡ false → IsReading language history text pieces
    → IsNarrow tail → begins_undented tail ≡ true → is_newline newline.node ≡ true → newline.begin < newline.end → lexemes_along at pieces ++ tail ≡ front ++ (newline ∷ rest) → NewlineAt history text at front newline rest
located history text [] at tail front newline rest begun reads narrow undented is some e = absurd (narrow front newline rest e is some)
located history text (piece ∷ pieces) at tail front newline rest begun reads narrow undented is some e =
    go (in_either here (later ++ tail) front newline rest (sym (append_assoc here later tail) ∙ e))
    (λ front. located (after history piece) (drop piece.len text) pieces (at + piece.len) tail front newline rest begun_later reads.1 narrow undented is some)
  where
    here : List Lexeme
    here = map (moved at) piece.lexemes

    later : List Lexeme
    later = lexemes_along (at + piece.len) pieces

    begun_later : is_nothing (after history piece).before ≡ false
    begun_later = started history piece (piece_fits language history text piece reads.0).sort

    in_line : (more : List Lexeme) → here ≡ front ++ (newline ∷ more) → rest ≡ more ++ (later ++ tail) → LinePiece history text piece → NewlineAt history text at front newline rest
    in_line more f g line =
        let whole : moved at (record { begin = 0; node = Newline; end = line.n }) ∷ map (moved at) line.parts.others ≡ front ++ (newline ∷ more) = ap (map (moved at)) (sym line.parts.whole) ∙ f in
        let first = first_alone (moved at (record { begin = 0; node = Newline; end = line.n })) (map (moved at) line.parts.others) front newline more (none_moved at line.parts.others line.parts.none) whole is in
        let same : at ≡ at + pieces_len [] = omega arith in
        record {
          earlier = [];
          piece = piece;
          n = line.n;
          others = line.parts.others;
          more = later ++ tail;
          reads = tt;
          begun = begun;
          counted = line.counted;
          found = line.found;
          stands = line.stands;
          lexemes = line.parts.whole;
          front_is = first.0;
          newline_is = sym first.1 ∙ ap (λ k. moved k (record { begin = 0; node = Newline; end = line.n })) same;
          rest_is = g ∙ ap (λ ls. ls ++ (later ++ tail)) (sym first.2) ∙ ap (λ k. map (moved k) line.parts.others ++ (later ++ tail)) same;
          undented = along_undented (after history piece) (drop piece.len text) pieces (at + piece.len) tail begun_later reads.1 undented;
        }

    go : InEither here (later ++ tail) front newline rest → ((front : List Lexeme) → later ++ tail ≡ front ++ (newline ∷ rest) → NewlineAt (after history piece) (drop piece.len text) (at + piece.len) front newline rest) → NewlineAt history text at front newline rest
    go (InFirst more f g) again = by (is_layout piece.sort) refl
      where
        by : (laid : Bool) → is_layout piece.sort ≡ laid → NewlineAt history text at front newline rest
        by true laid = in_line more f g (line_piece history text piece begun reads.0 laid)
        by false laid = absurd (none_there here front newline more (none_moved at piece.lexemes (plain_none piece.lexemes (piece_plain history text piece reads.0 laid))) f is)
    go (InSecond front' f g) again = one_earlier history text piece at front front' newline rest reads.0 f (again front' g)

-- the first piece of a text is a margin alone
from_first : (history : History) (text : Text) (first : Piece) (pieces : List Piece) (tail front : List Lexeme) (newline : Lexeme) (rest : List Lexeme) → is_nothing history.before ≡ true → IsReading language history text (first ∷ pieces)
    → IsNarrow tail → begins_undented tail ≡ true → is_newline newline.node ≡ true → newline.begin < newline.end → lexemes_along 0 (first ∷ pieces) ++ tail ≡ front ++ (newline ∷ rest) → NewlineAt history text 0 front newline rest
from_first history text first pieces tail front newline rest begun reads narrow undented is some e = go (in_either here (later ++ tail) front newline rest (sym (append_assoc here later tail) ∙ e))
  where
    here : List Lexeme
    here = map (moved 0) first.lexemes

    later : List Lexeme
    later = lexemes_along (0 + first.len) pieces

    margin : LineLexemes [] first.lexemes
    margin = margin_lexemes 0 [] (open_widths history.widths) (margin_of text) first (margin_none text) (sym (first_step_after history text begun) ∙ reads.0)

    go : InEither here (later ++ tail) front newline rest → NewlineAt history text 0 front newline rest
    go (InFirst more f g) = absurd (none_there here front newline more (none_moved 0 first.lexemes (ap has_newline margin.whole ∙ margin.none)) f is)
    go (InSecond front' f g) =
        one_earlier history text first 0 front front' newline rest reads.0 f
        (located (after history first) (drop first.len text) pieces (0 + first.len) tail front' newline rest (started history first (piece_fits language history text first reads.0).sort) reads.1 narrow undented is some g)

-- in a whole text, or one from a line on
found_first : (history : History) (text : Text) (pieces : List Piece) (last : Step) (front : List Lexeme) (newline : Lexeme) (rest : List Lexeme) → is_nothing history.before ≡ true → IsReading language history text pieces → is_newline newline.node ≡ true → newline.begin < newline.end
    → (reading_outcome history text pieces last).lexemes ≡ front ++ (newline ∷ rest) → NewlineAt history text 0 front newline rest
found_first history text pieces last front newline rest begun reads is some e = go pieces last reads e
  where
    margin_alone : (before : Before) → is_nothing before ≡ true → lexemes_before before text [] ≡ (margin_of text).comments
    margin_alone Nothing h = refl
    margin_alone Layout h = cc
    margin_alone Gap h = cc
    margin_alone Other h = cc

    closed : (pieces : List Piece) → IsReading language history text pieces → lexemes_along 0 pieces ++ closing (pieces_len pieces) (after_all history pieces) ≡ front ++ (newline ∷ rest) → NewlineAt history text 0 front newline rest
    closed [] reads e = absurd (closing_narrow (pieces_len []) history front newline rest e is some)
    closed (first ∷ pieces) reads e = from_first history text first pieces (closing (pieces_len (first ∷ pieces)) (after_all history (first ∷ pieces))) front newline rest begun reads (closing_narrow (pieces_len (first ∷ pieces)) (after_all history (first ∷ pieces))) refl is some e

    go : (pieces : List Piece) (last : Step) → IsReading language history text pieces → (reading_outcome history text pieces last).lexemes ≡ front ++ (newline ∷ rest) → NewlineAt history text 0 front newline rest
    go [] (Fails fault) reads e = absurd (none_there (margin_of text).comments front newline rest (margin_none text) (sym (margin_alone history.before begun) ∙ e) is)
    go (first ∷ pieces) (Fails fault) reads e = from_first history text first pieces [] front newline rest begun reads (none_narrow [] refl) refl is some (append-nil (lexemes_along 0 (first ∷ pieces)) ∙ sym (some_lexemes_before history.before text first pieces) ∙ e)
    go pieces (Stands piece) reads e = closed pieces reads e
    go pieces Ends reads e = closed pieces reads e

-- in the rest of a text
found_later : (history : History) (text : Text) (pieces : List Piece) (last : Step) (front : List Lexeme) (newline : Lexeme) (rest : List Lexeme) → is_nothing history.before ≡ false → IsReading language history text pieces → is_newline newline.node ≡ true
    → newline.begin < newline.end → (reading_outcome history text pieces last).lexemes ≡ front ++ (newline ∷ rest) → NewlineAt history text 0 front newline rest
found_later history text pieces last front newline rest begun reads is some e = go last e
  where
    along : (before : Before) → is_nothing before ≡ false → lexemes_before before text pieces ≡ lexemes_along 0 pieces
    along Nothing h = cc
    along Layout h = refl
    along Gap h = refl
    along Other h = refl

    closed : lexemes_along 0 pieces ++ closing (pieces_len pieces) (after_all history pieces) ≡ front ++ (newline ∷ rest) → NewlineAt history text 0 front newline rest
    closed e = located history text pieces 0 (closing (pieces_len pieces) (after_all history pieces)) front newline rest begun reads (closing_narrow (pieces_len pieces) (after_all history pieces)) refl is some e

    go : (last : Step) → (reading_outcome history text pieces last).lexemes ≡ front ++ (newline ∷ rest) → NewlineAt history text 0 front newline rest
    go (Fails fault) e = located history text pieces 0 [] front newline rest begun reads (none_narrow [] refl) refl is some (append-nil (lexemes_along 0 pieces) ∙ sym (along history.before begun) ∙ e)
    go (Stands piece) e = closed e
    go Ends e = closed e

-- Such a `Newline` of a text is found so.
pub newline_found : (history : History) (text : Text) (front : List Lexeme) (newline : Lexeme) (rest : List Lexeme) → (outcome_after history text).lexemes ≡ front ++ (newline ∷ rest) → is_newline newline.node ≡ true → newline.begin < newline.end
    → NewlineAt history text 0 front newline rest
newline_found history text front newline rest e is some = by (is_nothing history.before) refl
  where
    lexemes : (reading_outcome history text (pieces_after history text) (last_after history text)).lexemes ≡ front ++ (newline ∷ rest)
    lexemes = sym (ap (λ (o : Outcome). o.lexemes) (outcome_is history text)) ∙ e

    by : (none : Bool) → is_nothing history.before ≡ none → NewlineAt history text 0 front newline rest
    by true begun = found_first history text (pieces_after history text) (last_after history text) front newline rest begun (longest_after history text).reads is some lexemes
    by false begun = found_later history text (pieces_after history text) (last_after history text) front newline rest begun (longest_after history text).reads is some lexemes
