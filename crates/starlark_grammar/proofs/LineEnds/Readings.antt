-- Readings of a text whose LFs are written as CR LF.
use Rattle.std.proofs.Common.{◌≡◌, ℕ, ◌+◌, Bool, true, false, not, List, [], ◌∷◌, ◌++◌, length, take, drop, map, refl, ap, ◌∙◌, sym, subst, Option, Some, None, arith}
use Rattle.std.specs.Prelude.{◌&&◌, if◌then◌else◌, option_map}
use Rattle.std.specs.Str.{IsUtf8, IsCharBoundary}
use Rattle.std.proofs.Math.Seq.{drop-append_seam, take-append_seam}
use Rattle.std.proofs.lemmas.Bool.{and_parts, eqb-true}
use Rattle.std.proofs.lemmas.Str.{IsUtf8-drop}
use Rattle.std.proofs.lemmas.List.{take-append-drop, length-drop}
use Rattle.std.proofs.lemmas.List.Sums.{sum_by-cons}
use Rattle.starlark_grammar.specs.declared.class.Class.TheVariants as word
use Rattle.starlark_grammar.specs.Words.{Text, class_in, language, openers, line_ends, symbols, names, patterns}
use Rattle.starlark_grammar.specs.declared.class.Class.{Class}
use Rattle.starlark_grammar.specs.declared.class.LiteralKind.TheVariants.{Text as OfText, Bytes as OfBytes, FString as OfFString}
use Rattle.starlark_grammar.specs.Front.{longest_front, language_front}
use Rattle.starlark_grammar.specs.Tokens.{Token, Comment, Newline, Indent, Dedent, Identifier, Int, Float, String, Bytes, FStringStart, FStringText, FStringExprStart, FStringExprEnd, FStringBang, FStringEnd, Word, Lexeme, moved, Outcome}
use Rattle.starlark_grammar.specs.Depths.{Mode, Outside, InText, AtTop, Deeper, open_fstring, mode_by, mode_after, is_outside}
use Rattle.starlark_grammar.specs.Margins.{is_lf, margin_of, margin_len, open_widths}
use Rattle.starlark_grammar.specs.Pieces.{Before, Nothing, Layout, Gap, Other, Piece, Step, Stands, Fails, Ends, Situation, token, word_step, front_step, is_bang, takes_bang, in_code, by_mode, by_before, step_at}
use Rattle.starlark_grammar.specs.Reading.{tokens_onto, History, nothing, after, after_all, situation, next_step, pieces_len, read, lexemes_along, closing, outcome_of, outcome}
use Rattle.starlark_grammar.specs.Longest.{IsReading, IsLongestReading}
use Rattle.starlark_grammar.specs.LineEnds.{holds_escaped_newline, opens_raw, is_raw_in, no_raw_newline}
use Rattle.starlark_grammar.specs.TextLaws.{CrlfKeepsTokens}
use Rattle.starlark_grammar.proofs.Lists.{drop-sum}
use Rattle.starlark_grammar.proofs.Words.Fronts.{front_single, front_sound}
use Rattle.starlark_grammar.proofs.WordNewlines.{language_lines, feed_ends}
use Rattle.starlark_grammar.proofs.Reading.Steps.{is_nothing}
use Rattle.starlark_grammar.proofs.Reading.Readings.{started, piece_fits, read_is, reading_fits, ends_at_end}
use Rattle.starlark_grammar.proofs.Order.WholeTexts.{word_edge, piece_bounded}
use Rattle.starlark_grammar.proofs.Joining.Settled.{outside_none}
use Rattle.starlark_grammar.proofs.Joining.Tabs.{first_step, never_ends, outcome_by}
use Rattle.starlark_grammar.proofs.LineEnds.Texts.{crlf, crlf_is, crlf_append, no_return, no_return_of, no_return_drop}
use Rattle.starlark_grammar.proofs.LineEnds.Fronts.{front_crlf}
use Rattle.starlark_grammar.proofs.LineEnds.Bodies.{apart, utf8_apart, form_other}
use Rattle.starlark_grammar.proofs.LineEnds.Margins.{nodes, nodes_append, nodes_moved, is_neutral, neutral, Left, Whole, AfterComments, PieceCrlf, margin_stands, replicate_nodes}
use Rattle.starlark_grammar.proofs.LineEnds.Pieces.{LeftAt, AtWhole, AtFeed, StandsCrlf, alike, is_raw_class, line_end_crlf, word_crlf, chunk_crlf}

-- Code

bang_crlf : (text : Text) → is_bang (crlf text) ≡ is_bang text
bang_crlf [] = refl
bang_crlf (b ∷ []) = by (is_lf b) refl
  where
    by : (feed : Bool) → is_lf b ≡ feed → is_bang (if feed then 13 ∷ 10 ∷ [] else b ∷ []) ≡ is_bang (b ∷ [])
    by true e = ap (λ c. is_bang (c ∷ [])) (sym (eqb-true b 10 e))
    by false e = refl
bang_crlf (b ∷ c ∷ bs) = by (is_lf b) refl (is_lf c) refl
  where
    by : (feed : Bool) → is_lf b ≡ feed → (next : Bool) → is_lf c ≡ next → is_bang (if feed then 13 ∷ 10 ∷ (if next then 13 ∷ 10 ∷ crlf bs else c ∷ crlf bs) else b ∷ (if next then 13 ∷ 10 ∷ crlf bs else c ∷ crlf bs)) ≡ is_bang (b ∷ c ∷ bs)
    by true e next f = ap (λ d. is_bang (d ∷ c ∷ bs)) (sym (eqb-true b 10 e))
    by false e true f = ap (λ d. is_bang (b ∷ d ∷ bs)) (sym (eqb-true c 10 f))
    by false e false f = refl

-- what stands in code, where the text isn't at its end
abbrev code : Situation → Text → Step
code s text = if takes_bang s.mode s.before && is_bang text then token 1 FStringBang else front_step s text (longest_front (class_in language) text)

code_form : (s : Situation) (b : ℕ) (bs : Text) → in_code language s (crlf (b ∷ bs)) ≡ code s (crlf (b ∷ bs))
code_form s b bs = by (is_lf b)
  where
    by : (feed : Bool) → in_code language s (if feed then 13 ∷ 10 ∷ crlf bs else b ∷ crlf bs) ≡ code s (if feed then 13 ∷ 10 ∷ crlf bs else b ∷ crlf bs)
    by true = refl
    by false = refl

opens_raw_of : (class : Class) (len : ℕ) → is_raw_class class ≡ true → opens_raw (Some (class, len)) ≡ true
opens_raw_of (word.Opener OfText is_raw quote) len h = h
opens_raw_of (word.Opener OfBytes is_raw quote) len h = h
opens_raw_of (word.Opener OfFString is_raw quote) len h = cc
opens_raw_of class len h = cc

front_stands : (s : Situation) (text : Text) (found : Option (Class × ℕ)) (piece : Piece) → no_return text ≡ true → IsUtf8 text → longest_front (class_in language) text ≡ found → (opens_raw found ≡ true → holds_escaped_newline (take piece.len text) ≡ false)
    → front_step s text found ≡ Stands piece → StandsCrlf s.mode text (crlf text) (front_step s (crlf text) (longest_front (class_in language) (crlf text))) piece
front_stands s text None piece h utf8 known raw e = cc
front_stands s text (Some front) piece h utf8 known raw e =
    let n = front.1 in
    let sound = front_sound (class_in language) text front.0 front.1 known in
    let whole : take front.1 text ++ drop front.1 text ≡ text = take-append-drop front.1 text in
    let more : apart 0 (drop front.1 text) ≡ true = utf8_apart (drop front.1 text) (IsUtf8-drop text front.1 utf8 (word_edge text front.0 front.1 utf8 known)) in
    let found = word_crlf s front.0 (take front.1 text) (drop front.1 text) piece (language_lines (take front.1 text) front.0 sound.2) (no_return_drop front.1 text h) more
    (λ k. subst (λ (t : Text). holds_escaped_newline (take piece.len t) ≡ false) (sym whole) (raw (opens_raw_of front.0 front.1 k))) e in
    let form : crlf text ≡ crlf (take front.1 text) ++ crlf (drop front.1 text) = ap crlf (sym whole) ∙ crlf_append (take front.1 text) (drop front.1 text) in
    let len : ℕ = length (crlf (take front.1 text)) in
    let taken : take (length (crlf (take front.1 text))) (crlf text) ≡ crlf (take front.1 text) = ap (take (length (crlf (take front.1 text)))) form ∙ take-append_seam (crlf (take front.1 text)) (crlf (drop front.1 text)) in
    let left : drop (length (crlf (take front.1 text))) (crlf text) ≡ crlf (drop front.1 text) = ap (drop (length (crlf (take front.1 text)))) form ∙ drop-append_seam (crlf (take front.1 text)) (crlf (drop front.1 text)) in
    let step : front_step s (crlf text) (longest_front (class_in language) (crlf text)) ≡ word_step s front.0 (crlf (take front.1 text)) (crlf (drop front.1 text)) =
    ap (front_step s (crlf text)) (front_crlf text h ∙ ap (option_map (λ (front : Class × ℕ). (front.0, length (crlf (take front.1 text))))) known)
    ∙ ap (λ (t : Text). word_step s front.0 t (drop (length (crlf (take front.1 text))) (crlf text))) taken ∙ ap (word_step s front.0 (crlf (take front.1 text))) left in
    record {
      form = found.form;
      stands = step ∙ found.stands;
      like = found.like;
      left = subst (λ (t : Text). LeftAt s.mode piece (drop piece.len t) (drop found.form.len (crlf text))) whole
          (subst (λ (t : Text). LeftAt s.mode piece (drop piece.len (take front.1 text ++ drop front.1 text)) (drop found.form.len t)) (sym form) found.left);
    }

code_stands : (s : Situation) (text : Text) (piece : Piece) → no_return text ≡ true → IsUtf8 text → (opens_raw (longest_front (class_in language) text) ≡ true → holds_escaped_newline (take piece.len text) ≡ false)
    → in_code language s text ≡ Stands piece → StandsCrlf s.mode text (crlf text) (in_code language s (crlf text)) piece
code_stands s [] piece h utf8 raw e = cc
code_stands s (b ∷ bs) piece h utf8 raw e = subst (λ (step : Step). StandsCrlf s.mode (b ∷ bs) (crlf (b ∷ bs)) step piece) (sym (code_form s b bs)) (by (takes_bang s.mode s.before && is_bang (b ∷ bs)) refl e)
  where
    no_feed : (b : ℕ) (bs : Text) → is_bang (b ∷ bs) ≡ true → is_lf b ≡ false
    no_feed b bs h = go (is_lf b) refl
      where
        none : (bs : Text) → is_bang (10 ∷ bs) ≡ true → ⊥
        none [] h = cc
        none (c ∷ bs) h = cc

        go : (feed : Bool) → is_lf b ≡ feed → feed ≡ false
        go false f = refl
        go true f = absurd (none bs (subst (λ c. is_bang (c ∷ bs) ≡ true) (eqb-true b 10 f) h))

    same_bang : (takes_bang s.mode s.before && is_bang (crlf (b ∷ bs))) ≡ (takes_bang s.mode s.before && is_bang (b ∷ bs))
    same_bang = ap (λ test. takes_bang s.mode s.before && test) (bang_crlf (b ∷ bs))

    by : (bang : Bool) → (takes_bang s.mode s.before && is_bang (b ∷ bs)) ≡ bang → (if bang then token 1 FStringBang else front_step s (b ∷ bs) (longest_front (class_in language) (b ∷ bs))) ≡ Stands piece
        → StandsCrlf s.mode (b ∷ bs) (crlf (b ∷ bs)) (code s (crlf (b ∷ bs))) piece
    by true f e =
        let plain = no_feed b bs (and_parts (takes_bang s.mode s.before) (is_bang (b ∷ bs)) f).1 in
        let same : record { len = 1; lexemes = record { begin = 0; node = FStringBang; end = 1 } ∷ []; width = None; sort = Other } ≡ piece = cc in
        subst (StandsCrlf s.mode (b ∷ bs) (crlf (b ∷ bs)) (code s (crlf (b ∷ bs)))) same (record {
          form = record { len = 1; lexemes = record { begin = 0; node = FStringBang; end = 1 } ∷ []; width = None; sort = Other };
          stands = ap (λ (test : Bool). if test then token 1 FStringBang else front_step s (crlf (b ∷ bs)) (longest_front (class_in language) (crlf (b ∷ bs)))) (same_bang ∙ f);
          like = alike _;
          left = AtWhole (ap (drop 1) (form_other b bs plain));
        })
    by false f e =
        let found = front_stands s (b ∷ bs) (longest_front (class_in language) (b ∷ bs)) piece h utf8 refl raw e in
        record {
          form = found.form;
          stands = ap (λ (test : Bool). if test then token 1 FStringBang else front_step s (crlf (b ∷ bs)) (longest_front (class_in language) (crlf (b ∷ bs)))) (same_bang ∙ f) ∙ found.stands;
          like = found.like;
          left = found.left;
        }

-- What stands after some history, in the form.
next_stands : (history : History) (text : Text) (piece : Piece) → is_nothing history.before ≡ false → no_return text ≡ true → IsUtf8 text → (is_raw_in (situation history).mode text ≡ true → holds_escaped_newline (take piece.len text) ≡ false)
    → next_step language history text ≡ Stands piece → StandsCrlf (situation history).mode text (crlf text) (next_step language history (crlf text)) piece
unfolding next_step situation step_at language_front
next_stands history text piece later h utf8 raw e = before history.before later e
  where
    s : Situation
    s = situation history

    at : (mode : Mode) → mode_after history.tokens ≡ mode → (is_raw_in mode text ≡ true → holds_escaped_newline (take piece.len text) ≡ false) → by_mode language (situation history) mode text ≡ Stands piece
        → StandsCrlf (mode_after history.tokens) text (crlf text) (by_mode language (situation history) mode (crlf text)) piece
    at Outside f raw e = code_stands (situation history) text piece h utf8 raw e
    at (InText opening) f raw e = subst (λ (mode : Mode). StandsCrlf mode text (crlf text) (by_mode language (situation history) (InText opening) (crlf text)) piece) (sym f) (chunk_crlf opening text piece h (utf8_apart text utf8) raw e)
    at AtTop f raw e = code_stands (situation history) text piece h utf8 raw e
    at Deeper f raw e = code_stands (situation history) text piece h utf8 raw e

    before : (before : Before) → is_nothing before ≡ false → by_before language (situation history) before text ≡ Stands piece → StandsCrlf (mode_after history.tokens) text (crlf text) (by_before language (situation history) before (crlf text)) piece
    before Nothing k e = cc
    before Layout k e = at (mode_after history.tokens) refl raw e
    before Gap k e = at (mode_after history.tokens) refl raw e
    before Other k e = at (mode_after history.tokens) refl raw e

-- from an LF on, after a line end that counts
line_feed : class_in language (10 ∷ []) ≡ Some word.LineEnd
unfolding class_in language openers line_ends symbols names patterns
line_feed = refl

feed_front : (rest : Text) → longest_front (class_in language) (10 ∷ rest) ≡ Some (word.LineEnd, 1)
feed_front rest = front_single (class_in language) 10 rest (λ c bs. feed_ends (10 ∷ c ∷ bs) refl) ∙ ap (option_map (λ (class : Class). (class, 1))) line_feed

feed_step : (history : History) (rest : Text) → history.before ≡ Layout → mode_after history.tokens ≡ Outside → next_step language history (10 ∷ rest) ≡ word_step (situation history) word.LineEnd (10 ∷ []) rest
unfolding next_step situation step_at
feed_step history rest laid out =
    ap (λ (before : Before). by_before language (situation history) before (10 ∷ rest)) laid
    ∙ ap (λ (mode : Mode). by_mode language (situation history) mode (10 ∷ rest)) out
    ∙ ap (λ (bang : Bool). if bang then token 1 FStringBang else front_step (situation history) (10 ∷ rest) (longest_front (class_in language) (10 ∷ rest))) (ap (λ (mode : Mode). takes_bang mode history.before && is_bang (10 ∷ rest)) out)
    ∙ ap (front_step (situation history) (10 ∷ rest)) (feed_front rest)

-- Readings

-- What is left of the form, where so much of the text is left after some history.
data Standing (history : History) (text other : Text) : Type 0 where
  AtForm : other ≡ crlf text → Standing history text other
  AtLine : (rest : Text) → text ≡ 10 ∷ rest → other ≡ 10 ∷ crlf rest → history.before ≡ Layout → mode_after history.tokens ≡ Outside → Standing history text other

standing_step : (history : History) (text other : Text) (piece : Piece) → is_nothing history.before ≡ false → no_return text ≡ true → IsUtf8 text → (is_raw_in (situation history).mode text ≡ true → holds_escaped_newline (take piece.len text) ≡ false)
    → Standing history text other → next_step language history text ≡ Stands piece → StandsCrlf (situation history).mode text other (next_step language history other) piece
standing_step history text other piece later h utf8 raw (AtForm same) e =
    subst (λ (t : Text). StandsCrlf (situation history).mode text t (next_step language history t) piece) (sym same) (next_stands history text piece later h utf8 raw e)
standing_step history text other piece later h utf8 raw (AtLine rest here there laid out) e =
    let step = sym (feed_step history rest laid out) ∙ ap (next_step language history) (sym here) ∙ e in
    let plain : no_return rest ≡ true = no_return_drop 1 (10 ∷ rest) (subst (λ (t : Text). no_return t ≡ true) here h) in
    let found = line_end_crlf (situation history) (10 ∷ []) (10 ∷ []) rest piece plain step in
    let same : next_step language history other ≡ word_step (situation history) word.LineEnd (10 ∷ []) (crlf rest) = ap (next_step language history) there ∙ feed_step history (crlf rest) laid out in
    record {
      form = found.form;
      stands = same ∙ found.stands;
      like = found.like;
      left = subst (λ (t : Text). LeftAt (situation history).mode piece (drop piece.len t) (drop found.form.len other)) (sym here) (subst (λ (t : Text). LeftAt (situation history).mode piece (drop piece.len (10 ∷ rest)) (drop found.form.len t)) (sym there) found.left);
    }

-- tokens alone tell what was read
abbrev onto : List Token → List Token → List Token
onto earlier [] = earlier
onto earlier (token ∷ tokens) = onto (token ∷ earlier) tokens

onto_is : (earlier : List Token) (lexemes : List Lexeme) → tokens_onto earlier lexemes ≡ onto earlier (nodes lexemes)
onto_is earlier [] = refl
onto_is earlier (lexeme ∷ lexemes) = onto_is (lexeme.node ∷ earlier) lexemes

after_like : (history : History) (piece form : Piece) → PieceCrlf piece form → after history form ≡ after history piece
unfolding after
after_like history piece form like =
    rw (onto_is history.tokens form.lexemes ∙ ap (onto history.tokens) like.same ∙ sym (onto_is history.tokens piece.lexemes), like.width, like.sort) refl

-- neutral tokens leave a place outside
neutral_outside : (tokens : List Token) (lexemes : List Lexeme) → neutral lexemes ≡ true → open_fstring 0 tokens ≡ None → open_fstring 0 (tokens_onto tokens lexemes) ≡ None
unfolding open_fstring
neutral_outside tokens [] calm out = out
neutral_outside tokens (lexeme ∷ lexemes) calm out =
    let parts = and_parts (is_neutral lexeme.node) (neutral lexemes) calm in
    neutral_outside (lexeme.node ∷ tokens) lexemes parts.1 (one lexeme.node parts.0)
  where
    one : (node : Token) → is_neutral node ≡ true → open_fstring 0 (node ∷ tokens) ≡ None
    one Newline h = rw (out) refl
    one (Comment text) h = rw (out) refl
    one Indent h = rw (out) refl
    one Dedent h = rw (out) refl
    one (Identifier name) h = cc
    one (Int value) h = cc
    one (Float text) h = cc
    one (String value) h = cc
    one (Bytes value) h = cc
    one (FStringStart opening) h = cc
    one (FStringText value) h = cc
    one FStringExprStart h = cc
    one FStringExprEnd h = cc
    one FStringBang h = cc
    one FStringEnd h = cc
    one (Word terminal) h = cc

outside_open : (tokens : List Token) → mode_after tokens ≡ Outside → open_fstring 0 tokens ≡ None
unfolding mode_after
outside_open tokens e = outside_none (open_fstring 0 tokens) (ap is_outside e)

after_outside : (history : History) (piece : Piece) → neutral piece.lexemes ≡ true → mode_after history.tokens ≡ Outside → mode_after (after history piece).tokens ≡ Outside
unfolding after mode_after
after_outside history piece calm out = ap mode_by (neutral_outside history.tokens piece.lexemes calm (outside_open history.tokens out))

after_sort : (history : History) (piece : Piece) → (after history piece).before ≡ piece.sort
unfolding after
after_sort history piece = refl

mode_is : (history : History) → (situation history).mode ≡ mode_after history.tokens
unfolding situation
mode_is history = refl

standing_after : (history : History) (piece : Piece) (text other : Text) → LeftAt (situation history).mode piece text other → Standing (after history piece) text other
standing_after history piece text other (AtWhole e) = AtForm e
standing_after history piece text other (AtFeed rest here there mode calm sort) = AtLine rest here there (after_sort history piece ∙ sort) (after_outside history piece calm (sym (mode_is history) ∙ mode))

-- A reading of the whole text, and one of its form with the same tokens.
record ReadingCrlf (history : History) (other : Text) (pieces : List Piece) : Type 0 where
  forms : List Piece
  reads : IsReading language history other forms
  past : after_all history forms ≡ after_all history pieces
  none : drop (pieces_len forms) other ≡ []
  same : (at mode : ℕ) → nodes (lexemes_along mode forms) ≡ nodes (lexemes_along at pieces)

raw_parts : (history : History) (text : Text) (piece : Piece) (pieces : List Piece) → no_raw_newline history text (piece ∷ pieces) ≡ true
    → (is_raw_in (situation history).mode text ≡ true → holds_escaped_newline (take piece.len text) ≡ false) × (no_raw_newline (after history piece) (drop piece.len text) pieces ≡ true)
unfolding no_raw_newline
raw_parts history text piece pieces h =
    let parts = and_parts (not (is_raw_in (situation history).mode text && holds_escaped_newline (take piece.len text))) (no_raw_newline (after history piece) (drop piece.len text) pieces) h in
    (by (is_raw_in (situation history).mode text) (holds_escaped_newline (take piece.len text)) parts.0, parts.1)
  where
    by : (raw holds : Bool) → not (raw && holds) ≡ true → raw ≡ true → holds ≡ false
    by true true h e = cc
    by true false h e = refl
    by false holds h e = cc

along_nodes : (at mode : ℕ) (piece form : Piece) (pieces forms : List Piece) → PieceCrlf piece form → nodes (lexemes_along (mode + form.len) forms) ≡ nodes (lexemes_along (at + piece.len) pieces) → nodes (lexemes_along mode (form ∷ forms)) ≡ nodes (lexemes_along at (piece ∷ pieces))
along_nodes at mode piece form pieces forms like more =
    nodes_append (map (moved mode) form.lexemes) (lexemes_along (mode + form.len) forms)
    ∙ ap (λ ts. ts ++ nodes (lexemes_along (mode + form.len) forms)) (nodes_moved mode form.lexemes ∙ like.same ∙ sym (nodes_moved at piece.lexemes))
    ∙ ap (λ ts. nodes (map (moved at) piece.lexemes) ++ ts) more
    ∙ sym (nodes_append (map (moved at) piece.lexemes) (lexemes_along (at + piece.len) pieces))

onward : (history : History) (text other : Text) (piece : Piece) (pieces : List Piece) (found : StandsCrlf (situation history).mode text other (next_step language history other) piece) → ReadingCrlf (after history piece) (drop found.form.len other) pieces → ReadingCrlf history other (piece ∷ pieces)
onward history text other piece pieces found rest =
    let same : after history found.form ≡ after history piece = after_like history piece found.form found.like in
    record {
      forms = found.form ∷ rest.forms;
      reads = (found.stands, subst (λ (past : History). IsReading language past (drop found.form.len other) rest.forms) (sym same) rest.reads);
      past = ap (λ (past : History). after_all past rest.forms) same ∙ rest.past;
      none = ap (λ n. drop n other) (sum_by-cons (λ (piece : Piece). piece.len) found.form rest.forms) ∙ drop-sum found.form.len (pieces_len rest.forms) other ∙ rest.none;
      same = λ at mode. along_nodes at mode piece found.form pieces rest.forms found.like (rest.same (at + piece.len) (mode + found.form.len));
    }

reading_crlf : (history : History) (text other : Text) (pieces : List Piece) → is_nothing history.before ≡ false → no_return text ≡ true → IsUtf8 text → Standing history text other → IsReading language history text pieces → no_raw_newline history text pieces ≡ true → pieces_len pieces ≡ length text
    → ReadingCrlf history other pieces
reading_crlf history text other [] later h utf8 standing reads raw reach = record { forms = []; reads = tt; past = refl; none = at_end text reach standing; same = λ at mode. refl }
  where
    at_end : (text : Text) → 0 ≡ length text → Standing history text other → other ≡ []
    at_end [] e (AtForm same) = same
    at_end [] e (AtLine rest here there laid out) = cc
    at_end (b ∷ bs) e standing = absurd (omega (arith, e))
reading_crlf history text other (piece ∷ pieces) later h utf8 standing reads raw reach =
    let parts = raw_parts history text piece pieces raw in
    let found = standing_step history text other piece later h utf8 parts.0 standing reads.0 in
    let edge : IsCharBoundary text piece.len = (piece_bounded history text piece utf8 reads.0).1 in
    let total = sum_by-cons (λ (piece : Piece). piece.len) piece pieces in
    let rest = reading_crlf (after history piece) (drop piece.len text) (drop found.form.len other) pieces (started history piece (piece_fits language history text piece reads.0).sort) (no_return_drop piece.len text h) (IsUtf8-drop text piece.len utf8 edge)
    (standing_after history piece (drop piece.len text) (drop found.form.len other) found.left) reads.1 parts.1 (omega (arith, reach, total, length-drop piece.len text)) in
    onward history text other piece pieces found rest

nothing_outside : (situation nothing).mode ≡ Outside
unfolding situation mode_after open_fstring
nothing_outside = refl

-- the first margin
first_crlf : (text : Text) (piece : Piece) → no_return text ≡ true → next_step language nothing text ≡ Stands piece → StandsCrlf (situation nothing).mode text (crlf text) (next_step language nothing (crlf text)) piece
first_crlf text piece h e =
    let found = margin_stands 0 0 [] [] [] text piece h refl (sym (first_step text) ∙ e) refl in
    let here : drop piece.len text ≡ drop (margin_len (margin_of text)) text = let len : piece.len ≡ margin_len (margin_of text) = omega (arith, found.len_is) in ap (λ n. drop n text) len in
    let there : drop found.form.len (crlf text) ≡ drop (margin_len (margin_of (crlf text))) (crlf text) = let len : found.form.len ≡ margin_len (margin_of (crlf text)) = omega (arith, found.form_len) in ap (λ n. drop n (crlf text)) len in
    record {
      form = found.form;
      stands = first_step (crlf text) ∙ found.stands;
      like = found.like;
      left = subst (λ (t : Text). LeftAt (situation nothing).mode piece t (drop found.form.len (crlf text))) (sym here) (subst (LeftAt (situation nothing).mode piece (drop (margin_len (margin_of text)) text)) (sym there) (at found.sort found.outside found.left));
    }
  where
    at : {one other : Text} {content : Bool} → piece.sort ≡ Layout → (content ≡ false → neutral piece.lexemes ≡ true) → Left one other content → LeftAt (situation nothing).mode piece one other
    at sort calm (Whole e) = AtWhole e
    at sort calm (AfterComments rest e f none) = AtFeed rest e f nothing_outside (calm none) sort

whole_crlf : (text : Text) (pieces : List Piece) → no_return text ≡ true → IsUtf8 text → ¬ (pieces ≡ []) → IsReading language nothing text pieces → no_raw_newline nothing text pieces ≡ true → pieces_len pieces ≡ length text → ReadingCrlf nothing (crlf text) pieces
whole_crlf text [] h utf8 some reads raw reach = absurd (some refl)
whole_crlf text (piece ∷ pieces) h utf8 some reads raw reach =
    let parts = raw_parts nothing text piece pieces raw in
    let found = first_crlf text piece h reads.0 in
    let edge : IsCharBoundary text piece.len = (piece_bounded nothing text piece utf8 reads.0).1 in
    let total = sum_by-cons (λ (piece : Piece). piece.len) piece pieces in
    let rest = reading_crlf (after nothing piece) (drop piece.len text) (drop found.form.len (crlf text)) pieces (started nothing piece (piece_fits language nothing text piece reads.0).sort) (no_return_drop piece.len text h) (IsUtf8-drop text piece.len utf8 edge)
    (standing_after nothing piece (drop piece.len text) (drop found.form.len (crlf text)) found.left) reads.1 parts.1 (omega (arith, reach, total, length-drop piece.len text)) in
    onward nothing text (crlf text) piece pieces found rest

-- Outcomes

closing_nodes : (at mode : ℕ) (history : History) → nodes (closing mode history) ≡ nodes (closing at history)
closing_nodes at mode history = ap (λ ts. Newline ∷ ts) (replicate_nodes (length (open_widths history.widths)) (record { begin = mode; node = Dedent; end = mode }) (record { begin = at; node = Dedent; end = at }) refl)

ending : (text other : Text) (pieces forms : List Piece) → after_all nothing forms ≡ after_all nothing pieces → nodes (lexemes_along 0 forms) ≡ nodes (lexemes_along 0 pieces)
    → nodes (outcome_of other forms Ends).lexemes ≡ nodes (outcome_of text pieces Ends).lexemes
ending text other pieces forms past same =
    nodes_append (lexemes_along 0 forms) (closing (pieces_len forms) (after_all nothing forms))
    ∙ ap (λ ts. ts ++ nodes (closing (pieces_len forms) (after_all nothing forms))) same
    ∙ ap (λ ts. nodes (lexemes_along 0 pieces) ++ ts) (ap (λ (history : History). nodes (closing (pieces_len forms) history)) past ∙ closing_nodes (pieces_len pieces) (pieces_len forms) (after_all nothing pieces))
    ∙ sym (nodes_append (lexemes_along 0 pieces) (closing (pieces_len pieces) (after_all nothing pieces)))

-- the reading of a text without fault
record Faultless (text : Text) : Type 0 where
  some : ¬ ((read language text).pieces ≡ [])
  last : (read language text).last ≡ Ends
  reach : pieces_len (read language text).pieces ≡ length text
  none : drop (pieces_len (read language text).pieces) text ≡ []
  is : outcome text ≡ outcome_of text (read language text).pieces Ends

faultless : (text : Text) → (outcome text).fault ≡ None → Faultless text
faultless text h = record { some = some; last = last; reach = reach; none = none; is = is }
  where
    longest : IsLongestReading language nothing text (read language text).pieces (read language text).last
    longest = read_is language text

    by : outcome text ≡ outcome_of text (read language text).pieces (read language text).last
    by = outcome_by text (read language text).pieces (read language text).last (read_is language text)

    last : (read language text).last ≡ Ends
    last = go (read language text).last refl
      where
        go : (step : Step) → (read language text).last ≡ step → (read language text).last ≡ Ends
        go (Stands piece) e = absurd (longest.no_piece piece e)
        go (Fails fault) e =
            let wrong : Some (moved (pieces_len (read language text).pieces) fault) ≡ None = sym (ap (λ (step : Step). (outcome_of text (read language text).pieces step).fault) e) ∙ sym (ap (λ (o : Outcome). o.fault) by) ∙ h in cc
        go Ends e = e

    none : drop (pieces_len (read language text).pieces) text ≡ []
    none = ends_at_end language (after_all nothing (read language text).pieces) (drop (pieces_len (read language text).pieces) text) (longest.stands_last ∙ last)

    reach : pieces_len (read language text).pieces ≡ length text
    reach = omega (arith, reading_fits language nothing text (read language text).pieces longest.reads, length-drop (pieces_len (read language text).pieces) text, ap (λ (t : Text). length t) none)

    is : outcome text ≡ outcome_of text (read language text).pieces Ends
    is = by ∙ ap (outcome_of text (read language text).pieces) last

    some : ¬ ((read language text).pieces ≡ [])
    some e =
        let first = subst (λ (ps : List Piece). next_step language (after_all nothing ps) (drop (pieces_len ps) text) ≡ Ends) e (longest.stands_last ∙ last) in
        never_ends (margin_of text) (sym (first_step text) ∙ first)

pub crlf_keeps : CrlfKeepsTokens
crlf_keeps text utf8 none plain raw = (
  ap (λ (t : Text). (outcome t).fault) (crlf_is text) ∙ ap (λ (o : Outcome). o.fault) form_is,
  ap (λ (t : Text). nodes (outcome t).lexemes) (crlf_is text) ∙ ap (λ (o : Outcome). nodes o.lexemes) form_is
      ∙ ending text (crlf text) (read language text).pieces found.forms found.past (found.same 0 0) ∙ sym (ap (λ (o : Outcome). nodes o.lexemes) whole.is),
)
  where
    whole : Faultless text
    whole = faultless text none

    longest : IsLongestReading language nothing text (read language text).pieces (read language text).last
    longest = read_is language text

    found : ReadingCrlf nothing (crlf text) (read language text).pieces
    found = whole_crlf text (read language text).pieces (no_return_of text plain) utf8 whole.some longest.reads raw whole.reach

    at_end : next_step language (after_all nothing (read language text).pieces) [] ≡ Ends
    at_end = subst (λ (t : Text). next_step language (after_all nothing (read language text).pieces) t ≡ Ends) whole.none (longest.stands_last ∙ whole.last)

    form_longest : IsLongestReading language nothing (crlf text) found.forms Ends
    form_longest = record {
      reads = found.reads;
      stands_last = ap (next_step language (after_all nothing found.forms)) found.none ∙ ap (λ (past : History). next_step language past []) found.past ∙ at_end;
      no_piece = λ piece e. cc;
    }

    form_is : outcome (crlf text) ≡ outcome_of (crlf text) found.forms Ends
    form_is = outcome_by (crlf text) found.forms Ends form_longest
