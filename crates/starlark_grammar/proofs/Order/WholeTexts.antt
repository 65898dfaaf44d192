-- The lexemes of whole texts begin and end between characters.
use Rattle.starlark_grammar.specs.Laws.{AtBoundaries}
use Rattle.std.proofs.Common.{◌≡◌, ℕ, zero, suc, ◌+◌, ◌≤◌, ◌<◌, Bool, true, false, cond, not, List, [], ◌∷◌, ◌++◌, length, take, drop, get_or, refl, ap, ◌∙◌, sym, subst, Option, Some, None, arith, ◌⊎◌, inl, inr, nat_eq, ◌-◌}
use Rattle.std.specs.Prelude.{◌&&◌, ◌==◌, if◌then◌else◌, map, replicate, IfSome}
use Rattle.std.specs.List.{list_all, starts_with}
use Rattle.std.specs.Str.{byte, bytes_eq, IsUtf8, IsCharBoundary}
use Rattle.std.proofs.lemmas.Bool.{and_parts, cases_lt, eqb-true}
use Rattle.std.proofs.lemmas.Bool.Decides.{nat_tests}
use Rattle.std.proofs.lemmas.List.{take-append-drop, length-take-le, drop_more, length-drop}
use Rattle.std.proofs.Math.Seq.{take-add}
use Rattle.std.proofs.lemmas.List.Folds.{list_all-append}
use Rattle.std.specs.Map.{lookup}
use Rattle.std.specs.Option.{option_or}
use Rattle.std.proofs.lemmas.List.Sums.{sum_by-cons}
use Rattle.std.proofs.lemmas.Str.{IsCharBoundary-end, IsCharBoundary-start, IsUtf8-drop}
use Rattle.starlark_grammar.specs.Words as word
use Rattle.starlark_grammar.specs.Words.{Text, Quote, SingleQuote, DoubleQuote, Kind, OfText, OfBytes, OfFString, Class, Table, class_in, language, is_in_line, is_comment, patterns, openers, line_ends, symbols, names}
use Rattle.starlark_grammar.specs.Front.{longest_front}
use Rattle.starlark_grammar.specs.Longest.{IsLongestFront, IsReading, IsLongestReading}
use Rattle.starlark_grammar.specs.Numbers.{integer_of}
use Rattle.starlark_grammar.specs.Tokens.{Token, Comment, Identifier, Int, Float, Opening, Lexeme, moved, Newline, Dedent, FStringBang, FStringEnd, FStringExprStart, FStringStart, Spanned, Fault}
use Rattle.starlark_grammar.specs.Items.{Literal, Stop, Closing, Line, Ended, OpeningBrace, ClosingBrace, BadEscape, Body, body_at, body_len, body_value, closing_quotes, quote_byte}
use Rattle.starlark_grammar.specs.Depths.{Mode, Outside, InText, AtTop, Deeper}
use Rattle.starlark_grammar.specs.Margins.{Margin, margin_of, margin_len, is_content, has_tab, width_of, fits, indentation, open_widths}
use Rattle.starlark_grammar.specs.Pieces.{Before, Nothing, Layout, Gap, Other, Piece, Step, Stands, Fails, Ends, Situation, token, margin_step, line_end, opening_of, more_quotes, escape_fault, literal_token, literal_by, opener, chunk_text, chunk_piece, chunk_by, chunk, terminal_token, counts, starts_zero, word_step, front_step, takes_bang, is_bang, in_code, by_mode, by_before, step_at}
use Rattle.starlark_grammar.specs.Reading.{History, nothing, after, after_all, situation, next_step, pieces_len, lexemes_along, closing, outcome_of, outcome_in, outcome, read}
use Rattle.starlark_grammar.proofs.Words.Fronts.{front_sound, longest_front_is}
use Rattle.starlark_grammar.proofs.Lists.{drop-sum}
use Rattle.starlark_grammar.proofs.Reading.Steps.{Each}
use Rattle.starlark_grammar.proofs.Reading.Readings.{read_is}
use Rattle.starlark_grammar.proofs.Words.Tables.{class_in-language}
use Rattle.starlark_grammar.proofs.Words.Bytes.{is_plain, word_fits, language_fits}
use Rattle.starlark_grammar.proofs.Order.Edges.{after_plain, before_byte, boundary_shift, edges_append, edges_shift, starts_split, StopAt, stop_at, closing_edges, character_edge}
use Rattle.starlark_grammar.proofs.Order.Boundaries.{Edges, MarginEdges, margin_edges, indentation_edges}
use Rattle.starlark_grammar.proofs.Choices.{either, when}

abbrev pub Bounded : Text → Piece → Type 0
Bounded text piece = Edges text piece.lexemes × IsCharBoundary text piece.len

abbrev pub StepBounded : Text → Step → Type 0
StepBounded text = Each (Bounded text) (AtBoundaries text)

token_bounded : (text : Text) (len : ℕ) (node : Token) → IsUtf8 text → IsCharBoundary text len → StepBounded text (token len node)
token_bounded text len node utf8 end = (((IsCharBoundary-start text utf8, end), tt), end)

-- Margins

margin_step_bounded : (text : Text) (len : ℕ) (before : List Lexeme) (levels : List ℕ) → IsUtf8 text → IsCharBoundary text len → Edges text before → StepBounded text (margin_step len before levels (margin_of (drop len text)))
unfolding margin_step
margin_step_bounded text len before levels utf8 here edges =
    either (StepBounded text) (not (is_content margin.remainder)) _ _ (layout [] tt)
    (either (StepBounded text) (has_tab margin) _ _ (start, start)
    (either (StepBounded text) (fits (width_of margin) levels) _ _ (layout (indentation levels margin) (indentation_edges levels (drop len text) remainder)) (start, boundary_shift text len (margin_len margin) here found.end)))
  where
    start : IsCharBoundary text 0
    start = IsCharBoundary-start text utf8

    margin : Margin
    margin = margin_of (drop len text)

    remainder : IsUtf8 (drop len text)
    remainder = IsUtf8-drop text len utf8 here

    found : MarginEdges (drop len text) (margin_of (drop len text))
    found = margin_edges (drop len text) remainder

    layout : (more : List Lexeme) → Edges (drop len text) more → Edges text (before ++ map (moved len) (margin.comments ++ more)) × IsCharBoundary text (len + margin_len margin)
    layout more h = (edges_append text before (map (moved len) (margin.comments ++ more)) edges (edges_shift text len (margin.comments ++ more) here (edges_append (drop len text) margin.comments more found.comments h)), boundary_shift text len (margin_len margin) here found.end)

-- Literals

-- the end of the text, from a place in it on
text_end : (text : Text) (len : ℕ) (remainder : Text) → IsCharBoundary text len → drop len text ≡ remainder → IsCharBoundary text (len + length remainder)
text_end text len remainder here e =
    let left : length (drop len text) ≡ length remainder = ap (λ (t : Text). length t) e in
    let inside : len ≤ length text = here.0 in
    let same : length text ≡ len + length remainder = omega (arith, left, inside, length-drop len text) in
    subst (IsCharBoundary text) same (IsCharBoundary-end text)

literal_by_bounded : (text : Text) (mode : Mode) (kind : Kind) (opening : Opening) (len : ℕ) (remainder : Text) (body : Body) (stop : Stop) → IsUtf8 text → IsCharBoundary text len → drop len text ≡ remainder → StopAt opening (drop (body_len body) remainder) stop → StepBounded text (literal_by mode kind opening len remainder body stop)
literal_by_bounded text mode kind opening len remainder body Closing utf8 here e stop =
    let left : drop (len + body_len body) text ≡ drop (body_len body) remainder = drop-sum len (body_len body) text ∙ ap (drop (body_len body)) e in
    let edges = closing_edges opening text (len + body_len body) utf8 (subst (λ (t : Text). t ≡ closing_quotes opening ++ drop (length (closing_quotes opening)) t) (sym left) stop) in
    token_bounded text (len + body_len body + length (closing_quotes opening)) (literal_token kind (body_value body)) utf8 edges.1
literal_by_bounded text mode kind opening len remainder body (BadEscape read last) utf8 here e stop = go (drop 1 (take read rest)) count
  where
    at : ℕ
    at = len + body_len body

    rest : Text
    rest = drop (body_len body) remainder

    left : drop at text ≡ rest
    left = drop-sum len (body_len body) text ∙ ap (drop (body_len body)) e

    begin : IsCharBoundary text at
    begin = before_byte text at (byte "\\") stop.0 (left ∙ stop.1) (omega arith)

    utf8_rest : IsUtf8 rest
    utf8_rest = subst (λ (t : Text). IsUtf8 t) left (IsUtf8-drop text at utf8 begin)

    end : IsCharBoundary text (at + read)
    end = boundary_shift text at read begin (subst (λ (t : Text). IsCharBoundary t read) (sym left) (stop.2 utf8_rest).0)

    one : IsCharBoundary text (1 + at)
    one = let same : at + 1 ≡ 1 + at = omega arith in subst (IsCharBoundary text) same (boundary_shift text at 1 begin (after_plain (drop at text) (byte "\\" ∷ []) stop.0 (IsUtf8-drop text at utf8 begin) (left ∙ stop.1) refl))

    count : length (drop 1 (take read rest)) ≡ read - 1
    count =
        let inside : read ≤ length rest = (stop.2 utf8_rest).0.0 in
        omega (arith, length-drop 1 (take read rest), length-take-le read rest inside)

    go : (t : Text) → length t ≡ read - 1 → StepBounded text (escape_fault at t)
    go [] k = (begin, one)
    go (b ∷ bs) k = let same : at + read ≡ at + length (byte "\\" ∷ b ∷ bs) = omega (arith, k) in (begin, subst (IsCharBoundary text) same end)
literal_by_bounded text mode kind opening len remainder body Line utf8 here e stop =
    (IsCharBoundary-start text utf8, before_byte text (len + body_len body) (byte "\n") stop.0 (drop-sum len (body_len body) text ∙ ap (drop (body_len body)) e ∙ stop.1) (omega arith))
literal_by_bounded text mode kind opening len remainder body Ended utf8 here e stop = (IsCharBoundary-start text utf8, text_end text len remainder here e)
literal_by_bounded text mode kind opening len remainder body OpeningBrace utf8 here e stop = (IsCharBoundary-start text utf8, text_end text len remainder here e)
literal_by_bounded text mode kind opening len remainder body ClosingBrace utf8 here e stop = (IsCharBoundary-start text utf8, text_end text len remainder here e)

-- the end of an opening
opening_edge : (text : Text) (len : ℕ) (is_raw : Bool) (quote : Quote) → IsUtf8 text → IsCharBoundary text len → IsCharBoundary text (len + more_quotes (opening_of is_raw quote (drop len text)))
opening_edge text len is_raw quote utf8 here = go (starts_with nat_eq (drop len text) (quote_byte quote ∷ quote_byte quote ∷ [])) (starts_split (drop len text) (quote_byte quote ∷ quote_byte quote ∷ []))
  where
    plain : (quote : Quote) → is_plain (quote_byte quote ∷ quote_byte quote ∷ []) ≡ true
    plain SingleQuote = refl
    plain DoubleQuote = refl

    same : len ≡ len + 0
    same = omega arith

    go : (starts : Bool) → (starts ≡ true → drop len text ≡ (quote_byte quote ∷ quote_byte quote ∷ []) ++ drop 2 (drop len text)) → IsCharBoundary text (len + (if starts then 2 else 0))
    go false h = subst (IsCharBoundary text) same here
    go true h = boundary_shift text len 2 here (after_plain (drop len text) (quote_byte quote ∷ quote_byte quote ∷ []) (drop 2 (drop len text)) (IsUtf8-drop text len utf8 here) (h refl) (plain quote))

opener_bounded : (text : Text) (mode : Mode) (kind : Kind) (is_raw : Bool) (quote : Quote) (len : ℕ) → IsUtf8 text → IsCharBoundary text len → StepBounded text (opener mode kind (opening_of is_raw quote (drop len text)) len (drop len text))
opener_bounded text mode OfFString is_raw quote len utf8 here = token_bounded text (len + more_quotes (opening_of is_raw quote (drop len text))) (FStringStart (opening_of is_raw quote (drop len text))) utf8 (opening_edge text len is_raw quote utf8 here)
opener_bounded text mode OfText is_raw quote len utf8 here =
    let opening : Opening = opening_of is_raw quote (drop len text) in
    let literal : Literal = record { kind = OfText; opening = opening } in
    let remainder : Text = drop (more_quotes opening) (drop len text) in
    literal_by_bounded text mode OfText opening (len + more_quotes opening) remainder (body_at literal remainder) _ utf8 (opening_edge text len is_raw quote utf8 here) (drop-sum len (more_quotes opening) text) (stop_at literal remainder)
opener_bounded text mode OfBytes is_raw quote len utf8 here =
    let opening : Opening = opening_of is_raw quote (drop len text) in
    let literal : Literal = record { kind = OfBytes; opening = opening } in
    let remainder : Text = drop (more_quotes opening) (drop len text) in
    literal_by_bounded text mode OfBytes opening (len + more_quotes opening) remainder (body_at literal remainder) _ utf8 (opening_edge text len is_raw quote utf8 here) (drop-sum len (more_quotes opening) text) (stop_at literal remainder)

-- Texts of f-strings

chunk_piece_bounded : (text : Text) (body : Body) (node : Token) (len : ℕ) → IsUtf8 text → IsCharBoundary text (body_len body) → IsCharBoundary text (body_len body + len) → StepBounded text (chunk_piece body node len)
chunk_piece_bounded text body node len utf8 middle end = (edges_append text (chunk_text (body_len body) (body_value body)) (stop ∷ []) (first (body_value body)) ((middle, end), tt), end)
  where
    stop : Lexeme
    stop = record { begin = body_len body; node = node; end = body_len body + len }

    first : (value : Text) → Edges text (chunk_text (body_len body) value)
    first [] = tt
    first (b ∷ bs) = ((IsCharBoundary-start text utf8, middle), tt)

-- before a byte of ASCII, and after it
byte_edges : (text : Text) (at b : ℕ) (rest : Text) → IsUtf8 text → drop at text ≡ b ∷ rest → b < 128 → is_plain (b ∷ []) ≡ true → IsCharBoundary text at × IsCharBoundary text (at + 1)
byte_edges text at b rest utf8 e small plain =
    let before : IsCharBoundary text at = before_byte text at b rest e small in
    (before, boundary_shift text at 1 before (after_plain (drop at text) (b ∷ []) rest (IsUtf8-drop text at utf8 before) e plain))

chunk_by_bounded : (opening : Opening) (text : Text) (body : Body) (stop : Stop) → IsUtf8 text → StopAt opening (drop (body_len body) text) stop → StepBounded text (chunk_by opening text body stop)
chunk_by_bounded opening text body OpeningBrace utf8 stop =
    let middle : IsCharBoundary text (body_len body) = before_byte text (body_len body) (byte "{") stop.0 stop.1 (omega arith) in
    chunk_piece_bounded text body FStringExprStart 1 utf8 middle
    (boundary_shift text (body_len body) 1 middle (after_plain (drop (body_len body) text) (byte "{" ∷ []) stop.0 (IsUtf8-drop text (body_len body) utf8 middle) stop.1 refl))
chunk_by_bounded opening text body Closing utf8 stop =
    let edges = closing_edges opening text (body_len body) utf8 stop in
    chunk_piece_bounded text body FStringEnd (length (closing_quotes opening)) utf8 edges.0 edges.1
chunk_by_bounded opening text body ClosingBrace utf8 stop = byte_edges text (body_len body) (byte "}") stop.0 utf8 stop.1 (omega arith) refl
chunk_by_bounded opening text body (BadEscape read last) utf8 stop =
    let middle : IsCharBoundary text (body_len body) = before_byte text (body_len body) (byte "\\") stop.0 stop.1 (omega arith) in
    let edges = stop.2 (IsUtf8-drop text (body_len body) utf8 middle) in
    (boundary_shift text (body_len body) (read - last) middle edges.1, boundary_shift text (body_len body) read middle edges.0)
chunk_by_bounded opening text body Line utf8 stop = (IsCharBoundary-start text utf8, (byte_edges text (body_len body) (byte "\n") stop.0 utf8 stop.1 (omega arith) refl).1)
chunk_by_bounded opening text body Ended utf8 stop = (IsCharBoundary-start text utf8, IsCharBoundary-end text)

chunk_bounded : (opening : Opening) (text : Text) → IsUtf8 text → StepBounded text (chunk opening text)
unfolding chunk
chunk_bounded opening text utf8 = chunk_by_bounded opening text (body_at (record { kind = OfFString; opening = opening }) text) _ utf8 (stop_at (record { kind = OfFString; opening = opening }) text)

-- Words

word_step_bounded : (text : Text) (s : Situation) (class : Class) (front remainder : Text) → IsUtf8 text → IsCharBoundary text (length front) → drop (length front) text ≡ remainder → StepBounded text (word_step s class front remainder)
word_step_bounded text s word.Skipped front remainder utf8 end e = (tt, end)
word_step_bounded text s word.Comment front remainder utf8 end e = token_bounded text (length front) (Comment (drop 1 front)) utf8 end
word_step_bounded text s word.Tabs front remainder utf8 end e = (IsCharBoundary-start text utf8, IsCharBoundary-start text utf8)
word_step_bounded text s word.LineEnd front remainder utf8 end e =
    either (StepBounded text) (counts s.mode s.is_balanced) _ _
    (subst (λ (t : Text). StepBounded text (line_end (length front) s.levels t)) e (margin_step_bounded text (length front) (record { begin = 0; node = Newline; end = length front } ∷ []) s.levels utf8 end ((IsCharBoundary-start text utf8, end), tt)))
    (tt, end)
word_step_bounded text s (word.Opener kind is_raw quote) front remainder utf8 end e =
    subst (λ (t : Text). StepBounded text (opener s.mode kind (opening_of is_raw quote t) (length front) t)) e (opener_bounded text s.mode kind is_raw quote (length front) utf8 end)
word_step_bounded text s word.Reserved front remainder utf8 end e = (IsCharBoundary-start text utf8, end)
word_step_bounded text s word.Identifier front remainder utf8 end e = token_bounded text (length front) (Identifier front) utf8 end
word_step_bounded text s word.Decimal front remainder utf8 end e = either (StepBounded text) (starts_zero front) _ _ (IsCharBoundary-start text utf8, end) (token_bounded text (length front) (Int (integer_of 10 front)) utf8 end)
word_step_bounded text s word.Hexadecimal front remainder utf8 end e = token_bounded text (length front) (Int (integer_of 16 (drop 2 front))) utf8 end
word_step_bounded text s word.Octal front remainder utf8 end e = token_bounded text (length front) (Int (integer_of 8 (drop 2 front))) utf8 end
word_step_bounded text s word.Binary front remainder utf8 end e = token_bounded text (length front) (Int (integer_of 2 (drop 2 front))) utf8 end
word_step_bounded text s word.Float front remainder utf8 end e = token_bounded text (length front) (Float front) utf8 end
word_step_bounded text s (word.Fixed terminal) front remainder utf8 end e = token_bounded text (length front) (terminal_token s.mode terminal) utf8 end

none_after : (found rest : Option Class) → option_or found rest ≡ None → rest ≡ None
none_after None rest e = e
none_after (Some class) rest e = cc

-- a comment is a word
comment_known : (text : Text) → is_comment text ≡ true → class_in language text ≡ None → ⊥
unfolding class_in patterns
comment_known text h e =
    let none : class_in patterns text ≡ None =
    none_after (lookup (bytes_eq text) names) _ (none_after (lookup (bytes_eq text) symbols) _ (none_after (lookup (bytes_eq text) line_ends) _ (none_after (lookup (bytes_eq text) openers) _ (sym (class_in-language text) ∙ e)))) in
    go _ (Rattle.starlark_grammar.specs.Words.is_run (nat_eq 32) text) (is_comment text) h none
  where
    go : (rest : Option Class) (spaces comment : Bool) → comment ≡ true → cond spaces (Some word.Skipped) (cond comment (Some word.Comment) rest) ≡ None → ⊥
    go rest true comment h e = cc
    go rest false true h e = cc
    go rest false false h e = cc

-- and so is one with one more byte of its line
comment_more : (text : Text) (b : ℕ) → is_comment text ≡ true → is_in_line b ≡ true → is_comment (text ++ b ∷ []) ≡ true
comment_more [] b h k = cc
comment_more (c ∷ cs) b h k =
    let parts = and_parts (c == 35) (list_all is_in_line cs) h in
    rw (parts.0, list_all-append is_in_line cs (b ∷ []), parts.1, k) refl

-- The end of the longest front. A word that is no comment is ASCII, and a comment ends before a line end.
comment_edge : (text : Text) (n : ℕ) → IsUtf8 text → IsLongestFront (class_in language) text word.Comment n → is_comment (take n text) ≡ true → IsCharBoundary text n
comment_edge text n utf8 h comment = go (cases_lt n (length text))
  where
    no_line_end : (b : ℕ) → is_in_line b ≡ false → b < 128
    no_line_end b h = grind (arith, nat_tests)

    at_byte : (b : ℕ) (rest : Text) → drop n text ≡ b ∷ rest → n < length text → (in_line : Bool) → is_in_line b ≡ in_line → IsCharBoundary text n
    at_byte b rest e less false k = before_byte text n b rest e (no_line_end b k)
    at_byte b rest e less true k =
        let longer : take (n + 1) text ≡ take n text ++ b ∷ [] = take-add n 1 text ∙ ap (λ (t : Text). take n text ++ take 1 t) e in
        let none : class_in language (take (n + 1) text) ≡ None = h.longest (n + 1) (omega arith) (omega (arith, less)) in
        absurd (comment_known (take (n + 1) text) (subst (λ (t : Text). is_comment t ≡ true) (sym longer) (comment_more (take n text) b comment k)) none)

    go : (n < length text) ⊎ (length text ≤ n) → IsCharBoundary text n
    go (inl less) = at_byte (get_or text n 0) (drop (n + 1) text) (drop_more text n 0 less) less (is_in_line (get_or text n 0)) refl
    go (inr least) =
        let inside : n ≤ length text = h.inside in
        let same : length text ≡ n = omega (arith, least, inside) in
        subst (IsCharBoundary text) same (IsCharBoundary-end text)

pub word_edge : (text : Text) (class : Class) (n : ℕ) → IsUtf8 text → longest_front (class_in language) text ≡ Some (class, n) → IsCharBoundary text n
word_edge text class n utf8 e = go class e (language_fits (take n text) class (front_sound (class_in language) text class n e).2)
  where
    inside : n ≤ length text
    inside = (front_sound (class_in language) text class n e).1

    plain : is_plain (take n text) ≡ true → IsCharBoundary text n
    plain h = subst (IsCharBoundary text) (length-take-le n text inside) (after_plain text (take n text) (drop n text) utf8 (sym (take-append-drop n text)) h)

    go : (class : Class) → longest_front (class_in language) text ≡ Some (class, n) → word_fits class (take n text) ≡ true → IsCharBoundary text n
    go word.Comment e h = comment_edge text n utf8 (longest_front_is (class_in language) text word.Comment n e) h
    go word.Skipped e h = plain (and_parts (Rattle.starlark_grammar.proofs.Order.Gaps.all_gaps (take n text)) (is_plain (take n text)) h).1
    go word.LineEnd e h = plain (and_parts (Rattle.starlark_grammar.proofs.Order.Gaps.all_gaps (take n text)) (is_plain (take n text)) h).1
    go word.Tabs e h = plain h
    go (word.Opener kind is_raw quote) e h = plain h
    go word.Reserved e h = plain h
    go word.Identifier e h = plain h
    go word.Decimal e h = plain h
    go word.Hexadecimal e h = plain h
    go word.Octal e h = plain h
    go word.Binary e h = plain h
    go word.Float e h = plain h
    go (word.Fixed terminal) e h = plain h

front_step_bounded : (s : Situation) (text : Text) (found : Option (Class × ℕ)) → IsUtf8 text → longest_front (class_in language) text ≡ found → StepBounded text (front_step s text found)
front_step_bounded s text None utf8 f = (IsCharBoundary-start text utf8, character_edge text utf8)
front_step_bounded s text (Some front) utf8 f =
    let inside = (front_sound (class_in language) text front.0 front.1 f).1 in
    let taken : front.1 ≡ length (take front.1 text) = sym (length-take-le front.1 text inside) in
    let edge : IsCharBoundary text front.1 = word_edge text front.0 front.1 utf8 f in
    word_step_bounded text s front.0 (take front.1 text) (drop front.1 text) utf8 (subst (IsCharBoundary text) taken edge) (ap (λ n. drop n text) (sym taken))

bang_plain : (b : ℕ) (bs : Text) → is_bang (b ∷ bs) ≡ true → b < 128
bang_plain b [] h = let same : b ≡ byte "!" = eqb-true b (byte "!") h in omega (arith, same)
bang_plain b (c ∷ cs) h = let same : b ≡ byte "!" = eqb-true b (byte "!") (and_parts (b == byte "!") (not (c == byte "=")) h).0 in omega (arith, same)

in_code_bounded : (s : Situation) (text : Text) → IsUtf8 text → StepBounded text (in_code language s text)
in_code_bounded s [] utf8 = tt
in_code_bounded s (b ∷ bs) utf8 =
    when (StepBounded (b ∷ bs)) (takes_bang s.mode s.before && is_bang (b ∷ bs)) _ _
    (λ h. let small = bang_plain b bs (and_parts (takes_bang s.mode s.before) (is_bang (b ∷ bs)) h).1 in token_bounded (b ∷ bs) 1 FStringBang utf8 (after_plain (b ∷ bs) (b ∷ []) bs utf8 refl (rw (Rattle.std.proofs.lemmas.Bool.lt-ltb b 128 small) refl)))
    (front_step_bounded s (b ∷ bs) _ utf8 refl)

by_place_bounded : (s : Situation) (mode : Mode) (text : Text) → IsUtf8 text → StepBounded text (by_mode language s mode text)
by_place_bounded s Outside text utf8 = in_code_bounded s text utf8
by_place_bounded s (InText opening) text utf8 = chunk_bounded opening text utf8
by_place_bounded s AtTop text utf8 = in_code_bounded s text utf8
by_place_bounded s Deeper text utf8 = in_code_bounded s text utf8

by_before_bounded : (s : Situation) (before : Before) (text : Text) → IsUtf8 text → StepBounded text (by_before language s before text)
by_before_bounded s Nothing text utf8 = margin_step_bounded text 0 [] s.levels utf8 (IsCharBoundary-start text utf8) tt
by_before_bounded s Layout text utf8 = by_place_bounded s s.mode text utf8
by_before_bounded s Gap text utf8 = by_place_bounded s s.mode text utf8
by_before_bounded s Other text utf8 = by_place_bounded s s.mode text utf8

pub piece_bounded : (history : History) (text : Text) (piece : Piece) → IsUtf8 text → next_step language history text ≡ Stands piece → Bounded text piece
unfolding next_step situation step_at
piece_bounded history text piece utf8 e = subst (StepBounded text) e (by_before_bounded (situation history) history.before text utf8)

pub fault_bounded : (history : History) (text : Text) (fault : Spanned Fault) → IsUtf8 text → next_step language history text ≡ Fails fault → AtBoundaries text fault
unfolding next_step situation step_at
fault_bounded history text fault utf8 e = subst (StepBounded text) e (by_before_bounded (situation history) history.before text utf8)

-- Readings

pub along_bounded : (whole : Text) (at : ℕ) (history : History) (pieces : List Piece) → IsUtf8 whole → IsCharBoundary whole at → IsReading language history (drop at whole) pieces → Edges whole (lexemes_along at pieces) × IsCharBoundary whole (at + pieces_len pieces)
along_bounded whole at history [] utf8 here reads = (tt, subst (IsCharBoundary whole) same here)
  where
    same : at ≡ at + pieces_len []
    same = omega arith
along_bounded whole at history (piece ∷ pieces) utf8 here reads =
    let found = piece_bounded history (drop at whole) piece (IsUtf8-drop whole at utf8 here) reads.0 in
    let next : IsCharBoundary whole (at + piece.len) = boundary_shift whole at piece.len here found.1 in
    let left : drop piece.len (drop at whole) ≡ drop (at + piece.len) whole = sym (drop-sum at piece.len whole) in
    let more = along_bounded whole (at + piece.len) (after history piece) pieces utf8 next (subst (λ (t : Text). IsReading language (after history piece) t pieces) left reads.1) in
    let len : pieces_len (piece ∷ pieces) ≡ piece.len + pieces_len pieces = sum_by-cons (λ (piece : Piece). piece.len) piece pieces in
    let total : at + piece.len + pieces_len pieces ≡ at + pieces_len (piece ∷ pieces) = omega (arith, len) in
    (edges_append whole (map (moved at) piece.lexemes) (lexemes_along (at + piece.len) pieces) (edges_shift whole at piece.lexemes here found.0) more.0, subst (IsCharBoundary whole) total more.1)

pub same_edges : (text : Text) (at k : ℕ) → IsCharBoundary text at → Edges text (replicate k (record { begin = at; node = Dedent; end = at }))
same_edges text at zero here = tt
same_edges text at (suc k) here = ((here, here), same_edges text at k here)

along : (text : Text) (pieces : List Piece) → IsUtf8 text → IsReading language nothing text pieces → Edges text (lexemes_along 0 pieces) × IsCharBoundary text (pieces_len pieces)
along text pieces utf8 reads =
    let found = along_bounded text 0 nothing pieces utf8 (IsCharBoundary-start text utf8) reads in
    let same : 0 + pieces_len pieces ≡ pieces_len pieces = omega arith in
    (found.0, subst (IsCharBoundary text) same found.1)

whole_edges : (text : Text) (pieces : List Piece) → IsUtf8 text → IsReading language nothing text pieces → Edges text (lexemes_along 0 pieces ++ closing (pieces_len pieces) (after_all nothing pieces))
whole_edges text pieces utf8 reads =
    let found = along text pieces utf8 reads in
    edges_append text (lexemes_along 0 pieces) (closing (pieces_len pieces) (after_all nothing pieces)) found.0 ((found.1, found.1), same_edges text (pieces_len pieces) (length (open_widths (after_all nothing pieces).widths)) found.1)

outcome_of_edges : (text : Text) (pieces : List Piece) (last : Step) → IsUtf8 text → IsReading language nothing text pieces → Edges text (outcome_of text pieces last).lexemes
outcome_of_edges text [] (Fails fault) utf8 reads = (margin_edges text utf8).comments
outcome_of_edges text (piece ∷ pieces) (Fails fault) utf8 reads = (along text (piece ∷ pieces) utf8 reads).0
outcome_of_edges text pieces (Stands piece) utf8 reads = whole_edges text pieces utf8 reads
outcome_of_edges text pieces Ends utf8 reads = whole_edges text pieces utf8 reads

pub outcome_edges : (text : Text) → IsUtf8 text → Edges text (outcome text).lexemes
unfolding outcome outcome_in
outcome_edges text utf8 = outcome_of_edges text (read language text).pieces (read language text).last utf8 (read_is language text).reads

fault_of_edges : (text : Text) (pieces : List Piece) (last : Step) → IsUtf8 text → IsLongestReading language nothing text pieces last → IfSome (outcome_of text pieces last).fault (AtBoundaries text)
fault_of_edges text pieces (Fails fault) utf8 h =
    let here : IsCharBoundary text (pieces_len pieces) = (along text pieces utf8 h.reads).1 in
    let edges = fault_bounded (after_all nothing pieces) (drop (pieces_len pieces) text) fault (IsUtf8-drop text (pieces_len pieces) utf8 here) h.stands_last in
    (boundary_shift text (pieces_len pieces) fault.begin here edges.0, boundary_shift text (pieces_len pieces) fault.end here edges.1)
fault_of_edges text pieces (Stands piece) utf8 h = tt
fault_of_edges text pieces Ends utf8 h = tt

pub fault_edges : (text : Text) → IsUtf8 text → IfSome (outcome text).fault (AtBoundaries text)
unfolding outcome outcome_in
fault_edges text utf8 = fault_of_edges text (read language text).pieces (read language text).last utf8 (read_is language text)
