-- The fault of a text is that of each front in which it is decided and lexing begins again.
use Rattle.std.proofs.Common.{◌≡◌, ℕ, ◌+◌, ◌-◌, ◌≤◌, ◌<◌, Bool, true, false, not, List, [], ◌∷◌, ◌++◌, length, take, drop, refl, ap, ◌∙◌, sym, subst, Option, Some, None, arith, ◌⊎◌, inl, inr, append-nil, length-append}
use Rattle.std.specs.Prelude.{◌&&◌, ◌||◌, ◌==◌, if◌then◌else◌, max}
use Rattle.std.proofs.lemmas.Bool.{and_parts, both_ways}
use Rattle.std.proofs.lemmas.List.{drop-append-le, length-drop, take-append-le}
use Rattle.starlark_grammar.specs.declared.class.Class.TheVariants as word
use Rattle.starlark_grammar.specs.Words.{Text, class_in, language}
use Rattle.starlark_grammar.specs.declared.class.LiteralKind.{LiteralKind as Kind}
use Rattle.starlark_grammar.specs.declared.class.Class.{Class}
use Rattle.starlark_grammar.specs.declared.class.LiteralKind.TheVariants.{Text as OfText, Bytes as OfBytes, FString as OfFString}
use Rattle.starlark_grammar.specs.FrontCharacter.{first_character}
use Rattle.starlark_grammar.specs.Front.{longest_front}
use Rattle.starlark_grammar.specs.Margins.{begins_with_line_end, Margin, margin_of, margin_len, is_content, has_tab, width_of, fits}
use Rattle.starlark_grammar.specs.Tokens.{Opening, Indentation, InvalidInput, InvalidTab, Lexeme, Newline, Spanned, Fault, Outcome}
use Rattle.starlark_grammar.specs.Items.{Stop, Closing, Line, Ended, OpeningBrace, ClosingBrace, BadEscape, Body, body_at, body_len}
use Rattle.starlark_grammar.specs.Depths.{Mode, Outside, InText, AtTop, Deeper, mode_after}
use Rattle.starlark_grammar.specs.Pieces.{Before, Nothing, Layout, Gap, Other, Piece, Step, Stands, Fails, Situation, fault, first_margin, margin_step, line_end, opening_of, more_quotes, escape_fault, literal_by, literal, opener, chunk_by, chunk, counts, word_step, front_step, takes_bang, is_bang, in_code, by_mode, by_before, step_at}
use Rattle.starlark_grammar.specs.Reading.{History, after, after_all, history_after, situation, next_step, outcome_after, pieces_len, read_len}
use Rattle.starlark_grammar.specs.Longest.{IsReading}
use Rattle.starlark_grammar.proofs.Lists.{drop-sum}
use Rattle.starlark_grammar.proofs.WordNewlines.{in_line, line_fits, language_lines}
use Rattle.starlark_grammar.proofs.Literals.Bodies.{StopFits, body_fits}
use Rattle.starlark_grammar.proofs.Reading.Steps.{is_nothing}
use Rattle.starlark_grammar.proofs.Reading.Readings.{piece_fits, started}
use Rattle.starlark_grammar.proofs.Joining.Followed.{ends_line, ends_line_drop, longest_front_append}
use Rattle.starlark_grammar.proofs.Joining.FollowedMargins.{Followed, Whole, Within, followed, has_whole_lines, whole_after}
use Rattle.starlark_grammar.proofs.Joining.FollowedPieces.{FrontGoesOn, bang_stays, code_step, front_goes_on, opening_append, opening_inside}
use Rattle.starlark_grammar.proofs.Joining.Joined.{step_within, whole_from_ends}
use Rattle.starlark_grammar.proofs.Joining.LaidCuts.{reading_shortened}
use Rattle.starlark_grammar.specs.Found.{Passed, passed}
use Rattle.starlark_grammar.specs.Joining.{is_decided}
use Rattle.starlark_grammar.specs.Inner.KeptFaults.{is_in_margin}
use Rattle.starlark_grammar.specs.KeptLines.{is_bad_escape, with_literal}
use Rattle.starlark_grammar.specs.Recovery.{is_margin_tab, is_tab, line_end_len, margin_line, next_line, restart, stopped_at}
use Rattle.starlark_grammar.proofs.Recovery.FollowedStops.{StopInside, body_single}
use Rattle.starlark_grammar.proofs.Recovery.FollowedFaults.{chunk_same, escape_reads, fault_end, same_fault, unfinished_append}
use Rattle.starlark_grammar.proofs.Recovery.MarginTabs.{FirstFails, BeginsLine, line_end_stands, line_is, no_line_end, tab_next, word_line}
use Rattle.starlark_grammar.proofs.Found.FoundItems.{by_keeps, passed_lost}
use Rattle.starlark_grammar.proofs.KeptLines.KeptFaultPlaces.{by_open, kept, no_tab, quote_other, tab_other}
use Rattle.starlark_grammar.proofs.KeptLines.OpenQuotes.{quote_parts}
use Rattle.starlark_grammar.proofs.KeptLines.LiteralRests.{whole_other}
use Rattle.starlark_grammar.proofs.Reading.Onward.{StopsAt, after_by, later_some, stops_at}
use Rattle.starlark_grammar.proofs.Recovery.DecidedFaults.{decided, outcome_stays}
use Rattle.starlark_grammar.proofs.Joining.ShortenedBodies.{character_shortened}
use Rattle.starlark_grammar.proofs.Recovery.ShortenedStops.{body_short}

-- Margins

-- the last line of a margin begins at the front's end or later; the margin's fault is a tab's
abbrev MarginBeyond : Text → Text → Spanned Fault → Type 0
MarginBeyond text more found = (is_tab found.node ≡ true) × (length text ≤ (margin_of (text ++ more)).at)

margin_kind : (len : ℕ) (lexemes : List Lexeme) (levels : List ℕ) (margin : Margin) (found : Spanned Fault) → margin_step len lexemes levels margin ≡ Fails found → (is_tab found.node ≡ true) ⊎ (found.end ≡ len + margin_len margin)
unfolding margin_step
margin_kind len lexemes levels margin found e = go (not (is_content margin.remainder)) (has_tab margin) (fits (width_of margin) levels) _ _ e
  where
    go : (blank tab fitting : Bool) (one other : Piece)
        → (if blank then Stands one else (if tab then Fails (record { begin = 0; node = InvalidTab; end = 0 }) else (if fitting then Stands other else Fails (record { begin = 0; node = Indentation; end = len + margin_len margin })))) ≡ Fails found
        → (is_tab found.node ≡ true) ⊎ (found.end ≡ len + margin_len margin)
    go true tab fitting one other e = cc
    go false true fitting one other e = inl (sym (ap (λ (f : Spanned Fault). is_tab f.node) (same_fault _ found e)))
    go false false true one other e = cc
    go false false false one other e = inr (sym (ap (λ (f : Spanned Fault). f.end) (same_fault _ found e)))

margin_short : (len : ℕ) (lexemes : List Lexeme) (levels : List ℕ) (text more : Text) (found : Spanned Fault) → has_whole_lines text ≡ true → margin_step len lexemes levels (margin_of (text ++ more)) ≡ Fails found → found.end < len + length text
    → (margin_step len lexemes levels (margin_of text) ≡ Fails found) ⊎ MarginBeyond text more found
margin_short len lexemes levels text more found whole fails less = go (followed text more whole)
  where
    go : Followed text more → (margin_step len lexemes levels (margin_of text) ≡ Fails found) ⊎ MarginBeyond text more found
    go (Within some inside f) = inl (sym (step_within len lexemes levels text more some f) ∙ fails)
    go (Whole e f) = by (margin_kind len lexemes levels (margin_of (text ++ more)) found fails)
      where
        at : length text ≤ (margin_of (text ++ more)).at
        at = omega (arith, ap (λ (m : Margin). m.at) f)

        by : (is_tab found.node ≡ true) ⊎ (found.end ≡ len + margin_len (margin_of (text ++ more))) → (margin_step len lexemes levels (margin_of text) ≡ Fails found) ⊎ MarginBeyond text more found
        by (inl tab) = inr (tab, at)
        by (inr end) = absurd (omega (arith, less, end, at))

-- Literals

module _ (mode : Mode) (kind : Kind) (opening : Opening) (len : ℕ) (remainder more : Text) (body : Body) (found : Spanned Fault) (within : body_len body ≤ length (remainder ++ more)) (less : found.end < len + length remainder) where
  literal_reach : (stop : Stop) → StopFits opening (drop (body_len body) (remainder ++ more)) stop → literal_by mode kind opening len (remainder ++ more) body stop ≡ Fails found → StopInside (length remainder) (body_len body) stop × (body_len body < length remainder)
  literal_reach Closing fits e = cc
  literal_reach Line fits e = let end = fault_end _ found e in (tt, omega (arith, less, end))
  literal_reach OpeningBrace fits e = absurd (omega (arith, less, fault_end _ found e, length-append remainder more))
  literal_reach ClosingBrace fits e = absurd (omega (arith, less, fault_end _ found e, length-append remainder more))
  literal_reach Ended fits e = absurd (omega (arith, less, fault_end _ found e, length-append remainder more))
  literal_reach (BadEscape read last) fits e =
      let end = escape_reads len (body_len body) read last opening (remainder ++ more) found within fits e in (omega (arith, less, end), omega (arith, less, end))

  literal_back : (stop : Stop) → ends_line remainder ≡ true → (stop ≡ Line → opening.is_triple ≡ false) → StopInside (length remainder) (body_len body) stop → literal_by mode kind opening len (remainder ++ more) body stop ≡ Fails found → literal_by mode kind opening len remainder body stop ≡ Fails found
  literal_back Closing h single stops e = cc
  literal_back Line h single stops e = ap (λ (node : Fault). fault 0 node (len + body_len body)) (sym (unfinished_append mode kind opening remainder more h (single refl))) ∙ e
  literal_back OpeningBrace h single stops e = absurd (omega (arith, less, fault_end _ found e, length-append remainder more))
  literal_back ClosingBrace h single stops e = absurd (omega (arith, less, fault_end _ found e, length-append remainder more))
  literal_back Ended h single stops e = absurd stops
  literal_back (BadEscape read last) h single stops e =
      ap (λ (t : Text). escape_fault (len + body_len body) (drop 1 t)) (sym (take-append-le read (drop (body_len body) remainder) more (omega (arith, stops, length-drop (body_len body) remainder))))
      ∙ ap (λ (t : Text). escape_fault (len + body_len body) (drop 1 (take read t))) (sym (drop-append-le (body_len body) remainder more (omega (arith, stops))))
      ∙ e

literal_short : (mode : Mode) (kind : Kind) (opening : Opening) (len : ℕ) (remainder more : Text) (found : Spanned Fault) → ends_line remainder ≡ true → literal mode kind opening len (remainder ++ more) ≡ Fails found → found.end < len + length remainder → literal mode kind opening len remainder ≡ Fails found
literal_short mode kind opening len remainder more found h e less =
    let body : Body = body_at (record { kind = kind; opening = opening }) (remainder ++ more) in
    let within = body_fits (record { kind = kind; opening = opening }) (remainder ++ more) in
    let inside = literal_reach mode kind opening len remainder more body found within.0 less body.stop within.1 e in
    ap (λ (b : Body). literal_by mode kind opening len remainder b b.stop) (body_short (record { kind = kind; opening = opening }) remainder more h inside.0 inside.1)
    ∙ literal_back mode kind opening len remainder more body found within.0 less body.stop h (body_single (record { kind = kind; opening = opening }) (remainder ++ more)) inside.0 e

literal_after_short : (mode : Mode) (kind : Kind) (opening : Opening) (len quotes : ℕ) (remainder more : Text) (found : Spanned Fault) → ends_line remainder ≡ true → quotes < length remainder → literal mode kind opening (len + quotes) (drop quotes (remainder ++ more)) ≡ Fails found → found.end < len + length remainder
    → literal mode kind opening (len + quotes) (drop quotes remainder) ≡ Fails found
literal_after_short mode kind opening len quotes remainder more found h some e less =
    literal_short mode kind opening (len + quotes) (drop quotes remainder) more found (ends_line_drop quotes remainder some h)
    (subst (λ (t : Text). literal mode kind opening (len + quotes) t ≡ Fails found) (drop-append-le quotes remainder more (omega (arith, some))) e) (omega (arith, less, some, length-drop quotes remainder))

opener_short : (mode : Mode) (kind : Kind) (opening : Opening) (len : ℕ) (remainder more : Text) (found : Spanned Fault) → ends_line remainder ≡ true → more_quotes opening < length remainder → opener mode kind opening len (remainder ++ more) ≡ Fails found → found.end < len + length remainder
    → opener mode kind opening len remainder ≡ Fails found
opener_short mode OfFString opening len remainder more found h some e less = e
opener_short mode OfText opening len remainder more found h some e less = literal_after_short mode OfText opening len (more_quotes opening) remainder more found h some e less
opener_short mode OfBytes opening len remainder more found h some e less = literal_after_short mode OfBytes opening len (more_quotes opening) remainder more found h some e less

-- Texts of f-strings

chunk_reach : (opening : Opening) (text more : Text) (body : Body) (stop : Stop) (found : Spanned Fault) → chunk_by opening (text ++ more) body stop ≡ Fails found → found.end < length text → StopInside (length text) (body_len body) stop × (body_len body < length text)
chunk_reach opening text more body OpeningBrace found e less = cc
chunk_reach opening text more body Closing found e less = cc
chunk_reach opening text more body ClosingBrace found e less = let end = fault_end _ found e in (tt, omega (arith, less, end))
chunk_reach opening text more body Line found e less = let end = fault_end _ found e in (tt, omega (arith, less, end))
chunk_reach opening text more body (BadEscape read last) found e less = let end = fault_end _ found e in (omega (arith, less, end), omega (arith, less, end))
chunk_reach opening text more body Ended found e less = absurd (omega (arith, less, fault_end _ found e, length-append text more))

chunk_short : (opening : Opening) (text more : Text) (found : Spanned Fault) → ends_line text ≡ true → chunk opening (text ++ more) ≡ Fails found → found.end < length text → chunk opening text ≡ Fails found
unfolding chunk
chunk_short opening text more found h e less =
    let body : Body = body_at (record { kind = OfFString; opening = opening }) (text ++ more) in
    let inside = chunk_reach opening text more body body.stop found e less in
    ap (λ (b : Body). chunk_by opening text b b.stop) (body_short (record { kind = OfFString; opening = opening }) text more h inside.0 inside.1)
    ∙ chunk_same opening (text ++ more) text body body.stop found e (omega (arith, less, length-append text more))

-- Words

word_short : (s : Situation) (class : Class) (front remainder more : Text) (found : Spanned Fault) → (in_line front ≡ true → ends_line remainder ≡ true) → line_fits class front ≡ true → has_whole_lines remainder ≡ true → word_step s class front (remainder ++ more) ≡ Fails found → found.end < length front + length remainder
    → (word_step s class front remainder ≡ Fails found) ⊎ ((class ≡ word.LineEnd) × MarginBeyond remainder more found)
word_short s word.Skipped front remainder more found ends fits whole e less = inl e
word_short s word.Comment front remainder more found ends fits whole e less = inl e
word_short s word.Tabs front remainder more found ends fits whole e less = inl e
word_short s word.LineEnd front remainder more found ends fits whole e less = go (counts s.mode s.is_balanced) e
  where
    step : Bool → Text → Step
    step counted remainder = if counted then line_end (length front) s.levels remainder else Stands (record { len = length front; lexemes = []; width = None; sort = Other })

    by : (margin_step (length front) (record { begin = 0; node = Newline; end = length front } ∷ []) s.levels (margin_of remainder) ≡ Fails found) ⊎ MarginBeyond remainder more found → (step true remainder ≡ Fails found) ⊎ ((word.LineEnd ≡ word.LineEnd) × MarginBeyond remainder more found)
    by (inl fails) = inl fails
    by (inr beyond) = inr (refl, beyond)

    go : (counted : Bool) → step counted (remainder ++ more) ≡ Fails found → (step counted remainder ≡ Fails found) ⊎ ((word.LineEnd ≡ word.LineEnd) × MarginBeyond remainder more found)
    go true e = by (margin_short (length front) (record { begin = 0; node = Newline; end = length front } ∷ []) s.levels remainder more found whole e less)
    go false e = cc
word_short s (word.Opener kind is_raw quote) front remainder more found ends fits whole e less =
    let h = ends fits in
    inl (opener_short s.mode kind (opening_of is_raw quote remainder) (length front) remainder more found h (opening_inside is_raw quote remainder h)
    (sym (ap (λ (opening : Opening). opener s.mode kind opening (length front) (remainder ++ more)) (opening_append is_raw quote remainder more h)) ∙ e) less)
word_short s word.Reserved front remainder more found ends fits whole e less = inl e
word_short s word.Identifier front remainder more found ends fits whole e less = inl e
word_short s word.Decimal front remainder more found ends fits whole e less = inl e
word_short s word.Hexadecimal front remainder more found ends fits whole e less = inl e
word_short s word.Octal front remainder more found ends fits whole e less = inl e
word_short s word.Binary front remainder more found ends fits whole e less = inl e
word_short s word.Float front remainder more found ends fits whole e less = inl e
word_short s (word.Fixed terminal) front remainder more found ends fits whole e less = inl e

-- a line end, and after it a margin whose last line begins at the front's end or later
record LineBeyond (text more : Text) (found : Spanned Fault) : Type 0 where
  n : ℕ
  line : BeginsLine (text ++ more) n
  inside : n ≤ length text
  beyond : MarginBeyond (drop n text) more found

front_short : (s : Situation) (text more : Text) (front : Option (Class × ℕ)) (found : Spanned Fault) → ends_line text ≡ true → longest_front (class_in language) text ≡ front → front_step s (text ++ more) front ≡ Fails found → found.end < length text
    → (front_step s text front ≡ Fails found) ⊎ LineBeyond text more found
front_short s text more None found h known e less =
    let end : length (first_character (text ++ more)) ≡ found.end = fault_end _ found e in
    inl (ap (λ (t : Text). fault 0 (InvalidInput t) (length t)) (character_shortened text more (omega (arith, less, end))) ∙ e)
front_short s text more (Some front) found h known e less =
    by (word_short s front.0 (take front.1 text) (drop front.1 text) more found goes.ends (language_lines (take front.1 text) front.0 goes.sound.2) (whole_after front.1 text (whole_from_ends text h)) (sym goes.again ∙ e) (omega (arith, less, goes.len, length-drop front.1 text, goes.sound.1)))
  where
    goes : FrontGoesOn s text more front
    goes = front_goes_on s text more front h known

    by : (word_step s front.0 (take front.1 text) (drop front.1 text) ≡ Fails found) ⊎ ((front.0 ≡ word.LineEnd) × MarginBeyond (drop front.1 text) more found) → (front_step s text (Some front) ≡ Fails found) ⊎ LineBeyond text more found
    by (inl fails) = inl fails
    by (inr beyond) =
        let line : longest_front (class_in language) (text ++ more) ≡ Some (word.LineEnd, front.1) = longest_front_append text more h ∙ known ∙ ap (λ (class : Class). Some (class, front.1)) beyond.0 in
        inr (record { n = front.1; line = word_line (text ++ more) front.1 line; inside = goes.sound.1; beyond = beyond.1 })

code_short : (s : Situation) (text more : Text) (found : Spanned Fault) → ends_line text ≡ true → in_code language s (text ++ more) ≡ Fails found → found.end < length text → (in_code language s text ≡ Fails found) ⊎ LineBeyond text more found
code_short s [] more found h e less = cc
code_short s (b ∷ bs) more found h e less =
    go (takes_bang s.mode s.before && is_bang (b ∷ bs))
    (sym (ap (λ (front : Option (Class × ℕ)). code_step s (takes_bang s.mode s.before && is_bang (b ∷ (bs ++ more))) (b ∷ (bs ++ more)) front) (longest_front_append (b ∷ bs) more h)
    ∙ ap (λ bang. code_step s bang (b ∷ (bs ++ more)) (longest_front (class_in language) (b ∷ bs))) (bang_stays s b bs more h)) ∙ e)
  where
    go : (bang : Bool) → code_step s bang (b ∷ (bs ++ more)) (longest_front (class_in language) (b ∷ bs)) ≡ Fails found → (code_step s bang (b ∷ bs) (longest_front (class_in language) (b ∷ bs)) ≡ Fails found) ⊎ LineBeyond (b ∷ bs) more found
    go true e = cc
    go false e = front_short s (b ∷ bs) more (longest_front (class_in language) (b ∷ bs)) found h refl e less

-- the first margin, whose last line begins at the front's end or later
abbrev FirstBeyond : Before → Text → Text → Spanned Fault → Type 0
FirstBeyond before text more found = (is_nothing before ≡ true) × FirstFails (text ++ more) found × MarginBeyond text more found

-- What fails in a text, before the end of its front, fails in the front too, but for a tab in a margin that ends later.
step_short : (s : Situation) (text more : Text) (found : Spanned Fault) → ends_line text ≡ true → step_at language s (text ++ more) ≡ Fails found → found.end < length text
    → (step_at language s text ≡ Fails found) ⊎ (FirstBeyond s.before text more found ⊎ LineBeyond text more found)
unfolding step_at
step_short s text more found h e less = before s.before e
  where
    in_place : {A : Type 0} (before : Before) → A ⊎ LineBeyond text more found → A ⊎ (FirstBeyond before text more found ⊎ LineBeyond text more found)
    in_place before (inl fails) = inl fails
    in_place before (inr beyond) = inr (inr beyond)

    at : (mode : Mode) → by_mode language s mode (text ++ more) ≡ Fails found → (by_mode language s mode text ≡ Fails found) ⊎ LineBeyond text more found
    at Outside e = code_short s text more found h e less
    at (InText opening) e = inl (chunk_short opening text more found h e less)
    at AtTop e = code_short s text more found h e less
    at Deeper e = code_short s text more found h e less

    first : first_margin s.levels (text ++ more) ≡ Fails found → (first_margin s.levels text ≡ Fails found) ⊎ MarginBeyond text more found → (first_margin s.levels text ≡ Fails found) ⊎ (FirstBeyond Nothing text more found ⊎ LineBeyond text more found)
    first e (inl fails) = inl fails
    first e (inr beyond) = inr (inl (refl, (s.levels, e), beyond))

    before : (before : Before) → by_before language s before (text ++ more) ≡ Fails found → (by_before language s before text ≡ Fails found) ⊎ (FirstBeyond before text more found ⊎ LineBeyond text more found)
    before Nothing e = first e (margin_short 0 [] s.levels text more found (whole_from_ends text h) e (omega (arith, less)))
    before Layout e = in_place Layout (at s.mode e)
    before Gap e = in_place Gap (at s.mode e)
    before Other e = in_place Other (at s.mode e)

next_short : (history : History) (text more : Text) (found : Spanned Fault) → ends_line text ≡ true → next_step language history (text ++ more) ≡ Fails found → found.end < length text
    → (next_step language history text ≡ Fails found) ⊎ (FirstBeyond history.before text more found ⊎ LineBeyond text more found)
unfolding next_step situation
next_short history text more found h e less = step_short (situation history) text more found h e less

-- Where such a margin ends

-- only before the first piece nothing was read
pub none_before : (history : History) (text : Text) (pieces : List Piece) → IsReading language history text pieces → is_nothing (after_all history pieces).before ≡ true → (pieces_len pieces ≡ 0) × (is_nothing history.before ≡ true)
none_before history text [] reads h = (refl, h)
none_before history text (piece ∷ pieces) reads h =
    absurd (both_ways _ (later_some (after history piece) (drop piece.len text) pieces (started history piece (piece_fits language history text piece reads.0).sort) reads.1) h)

line_begins : (text : Text) (n : ℕ) → BeginsLine text n → begins_with_line_end text ≡ true
line_begins text n (inl line) = ap begins_with_line_end line.1
line_begins text n (inr line) = ap begins_with_line_end line.1

or_true : (test : Bool) → (test || true) ≡ true
or_true true = refl
or_true false = refl

-- a reading that stopped at the front's end or later goes on after it
line_far : (text more : Text) (fault : Spanned Fault) → 0 < length more → restart (text ++ more) fault ≤ length text → is_margin_tab (text ++ more) fault ≡ true
    → length text ≤ margin_line (text ++ more) (fault.begin + line_end_len (drop fault.begin (text ++ more))) → ⊥
unfolding stopped_at restart next_line
line_far text more fault some less tab far =
    stopped_far (subst (λ (tab : Bool). length text ≤ max (fault.end - 1) (if tab then margin_line (text ++ more) (fault.begin + line_end_len (drop fault.begin (text ++ more))) else fault.begin)) (sym tab) (omega (arith, far)))
  where
    stopped_far : length text ≤ stopped_at (text ++ more) fault → ⊥
    stopped_far far = omega (arith, far, less, some, length-append text more)

-- The last line of the margin of a tab's fault begins in the front.
abbrev IsNear : History → Text → Text → Spanned Fault → Type 0
IsNear history text more fault =
    is_margin_tab (text ++ more) fault ≡ true → is_in_margin history.before (text ++ more) fault.begin ≡ true → length text ≤ margin_line (text ++ more) (fault.begin + line_end_len (drop fault.begin (text ++ more))) → ⊥

module _ (history : History) (text more : Text) (fault : Spanned Fault) (near : IsNear history text more fault) where
  module _ (here : StopsAt history (text ++ more) fault) (inside : pieces_len here.pieces < length text) where
    left : drop (pieces_len here.pieces) (text ++ more) ≡ drop (pieces_len here.pieces) text ++ more
    left = drop-append-le (pieces_len here.pieces) text more (omega (arith, inside))

    node : is_tab here.found.node ≡ true → is_tab fault.node ≡ true
    node tab = sym (ap (λ (f : Spanned Fault). is_tab f.node) here.same) ∙ tab

    begin_is : is_tab here.found.node ≡ true → fault.begin ≡ pieces_len here.pieces
    begin_is tab =
        let start = (tab_next (after_all history here.pieces) (drop (pieces_len here.pieces) (text ++ more)) here.found tab here.longest.stands_last).begin in
        let begin = here.begin in
        omega (arith, start, begin)

    first_far : FirstBeyond (after_all history here.pieces).before (drop (pieces_len here.pieces) text) more here.found → ⊥
    first_far first =
        let start_is = none_before history (text ++ more) here.pieces here.longest.reads first.0 in
        let none : pieces_len here.pieces ≡ 0 = start_is.0 in
        let begin : fault.begin ≡ 0 = begin_is first.2.0 ∙ none in
        let fails : FirstFails (text ++ more) here.found = subst (λ n. FirstFails (drop n text ++ more) here.found) none first.1 in
        let far : length text ≤ (margin_of (text ++ more)).at = subst (λ n. length (drop n text) ≤ (margin_of (drop n text ++ more)).at) none first.2.1 in
        let start : (fault.begin == 0) ≡ true = ap (λ n. n == 0) begin in
        let tab : is_margin_tab (text ++ more) fault ≡ true = rw (node first.2.0, start) refl in
        let len : line_end_len (text ++ more) ≡ 0 = by (begins_with_line_end (text ++ more)) refl fails in
        let no_len : line_end_len (drop fault.begin (text ++ more)) ≡ 0 = ap (λ n. line_end_len (drop n (text ++ more))) begin ∙ len in
        let line : fault.begin + line_end_len (drop fault.begin (text ++ more)) ≡ 0 = omega (arith, begin, no_len) in
        let margin : is_in_margin history.before (text ++ more) fault.begin ≡ true = rw (start_is.1, start) refl in
        near tab margin (subst (λ k. length text ≤ margin_line (text ++ more) k) (sym line) (omega (arith, far)))
      where
        by : (line : Bool) → begins_with_line_end (text ++ more) ≡ line → FirstFails (text ++ more) here.found → line_end_len (text ++ more) ≡ 0
        by true e fails = absurd (line_end_stands (text ++ more) here.found e fails)
        by false e fails = no_line_end (text ++ more) e

    after_far : LineBeyond (drop (pieces_len here.pieces) text) more here.found → ⊥
    after_far next =
        let n : ℕ = next.n in
        let p : ℕ = pieces_len here.pieces in
        let begin : fault.begin ≡ p = begin_is next.beyond.0 in
        let mode : drop fault.begin (text ++ more) ≡ drop p text ++ more = ap (λ k. drop k (text ++ more)) begin ∙ left in
        let line : begins_with_line_end (drop fault.begin (text ++ more)) ≡ true = ap begins_with_line_end mode ∙ line_begins (drop p text ++ more) n next.line in
        let tab : is_margin_tab (text ++ more) fault ≡ true = rw (node next.beyond.0, line) (or_true (fault.begin == 0)) in
        let len : line_end_len (drop fault.begin (text ++ more)) ≡ n = ap line_end_len mode ∙ line_is (drop p text ++ more) n next.line in
        let within = next.inside in
        let rest : drop (p + n) (text ++ more) ≡ drop n (drop p text) ++ more = drop-sum p n (text ++ more) ∙ ap (drop n) left ∙ drop-append-le n (drop p text) more within in
        let at : (margin_of (drop (p + n) (text ++ more))).at ≡ (margin_of (drop n (drop p text) ++ more)).at = ap (λ (t : Text). (margin_of t).at) rest in
        let start : fault.begin + line_end_len (drop fault.begin (text ++ more)) ≡ p + n = omega (arith, begin, len) in
        let beyond = next.beyond.1 in
        let margin : is_in_margin history.before (text ++ more) fault.begin ≡ true = rw line (or_true (is_nothing history.before && fault.begin == 0)) in
        near tab margin (subst (λ k. length text ≤ margin_line (text ++ more) k) (sym start)
        (omega (arith, beyond, at, inside, within, length-drop p text, length-drop n (drop p text))))

-- Where a fault is decided in the front of a text, and what is passed with it ends there, the front has the outcome of the text.
pub fault_shortened : (history : History) (text more : Text) (fault : Spanned Fault) → (outcome_after history (text ++ more)).fault ≡ Some fault → is_decided text fault ≡ true → (passed history (text ++ more) fault).len ≤ length text
    → (outcome_after history text ≡ outcome_after history (text ++ more)) × (history_after history text ≡ history_after history (text ++ more))
fault_shortened history text [] fault has is less = (ap (outcome_after history) (sym (append-nil text)), ap (history_after history) (sym (append-nil text)))
fault_shortened history text (b ∷ bs) fault has is less =
    go (next_short (after_all history here.pieces) (drop (pieces_len here.pieces) text) (b ∷ bs) here.found (ends_line_drop (pieces_len here.pieces) text inside parts.1) fails (omega (arith, parts.0, here_end, length-drop (pieces_len here.pieces) text)))
  where
    here : StopsAt history (text ++ (b ∷ bs)) fault
    here = stops_at history (text ++ (b ∷ bs)) fault has

    parts : (fault.end < length text) × (ends_line text ≡ true)
    parts = decided text fault is

    here_end : pieces_len here.pieces + here.found.end ≡ fault.end
    here_end = here.end

    inside : pieces_len here.pieces < length text
    inside = omega (arith, parts.0, here_end)

    fails : next_step language (after_all history here.pieces) (drop (pieces_len here.pieces) text ++ (b ∷ bs)) ≡ Fails here.found
    fails = ap (next_step language (after_all history here.pieces)) (sym (drop-append-le (pieces_len here.pieces) text (b ∷ bs) (omega (arith, inside)))) ∙ here.longest.stands_last

    near : IsNear history text (b ∷ bs) fault
    near = by_keeps history (text ++ (b ∷ bs)) fault
        (λ stays_so. by_open history (text ++ (b ∷ bs)) fault stays_so
        (λ kept_it. λ tab margin far. both_ways _ ((kept history.before (text ++ (b ∷ bs)) (outcome_after history (text ++ (b ∷ bs))).lexemes fault kept_it).no_margin (and_parts (is_tab fault.node) _ tab).0) margin)
        (λ closes. λ tab margin far. both_ways _ (no_tab fault.node (and_parts (is_bad_escape fault.node) _ closes).0) (and_parts (is_tab fault.node) _ tab).0)
        (λ quote. λ tab margin far. both_ways _ (quote_other fault.node (quote_parts (mode_after (history_after history (text ++ (b ∷ bs))).tokens) (text ++ (b ∷ bs)) fault quote).0).1 (and_parts (is_tab fault.node) _ tab).0))
        (λ lost. λ tab margin far.
        let other = whole_other (read_len history (text ++ (b ∷ bs))) (text ++ (b ∷ bs)) fault (tab_other fault.node (and_parts (is_tab fault.node) _ tab).0) in
        let last : restart (text ++ (b ∷ bs)) (with_literal history (text ++ (b ∷ bs)) fault) ≤ length text = subst (λ (p : Passed). p.len ≤ length text) (passed_lost history (text ++ (b ∷ bs)) fault lost) less in
        line_far text (b ∷ bs) fault (omega arith) (subst (λ (f : Spanned Fault). restart (text ++ (b ∷ bs)) f ≤ length text) other last) tab far)

    stays : next_step language (after_all history here.pieces) (drop (pieces_len here.pieces) text) ≡ Fails here.found → (outcome_after history text ≡ outcome_after history (text ++ (b ∷ bs))) × (history_after history text ≡ history_after history (text ++ (b ∷ bs)))
    stays e =
        let reads = reading_shortened history text (b ∷ bs) here.pieces parts.1 here.longest.reads inside in
        let short = after_by history text here.pieces (Fails here.found) (record { reads = reads; stands_last = e; no_piece = λ piece e. cc }) in
        let found : (outcome_after history text).fault ≡ Some fault = ap (λ (o : Outcome). o.fault) short.0 ∙ ap Some here.same in
        let same = outcome_stays history text (b ∷ bs) fault parts.1 (stops_at history text fault found) parts.0 in
        (sym same.0, sym same.1)

    go : (next_step language (after_all history here.pieces) (drop (pieces_len here.pieces) text) ≡ Fails here.found) ⊎ (FirstBeyond (after_all history here.pieces).before (drop (pieces_len here.pieces) text) (b ∷ bs) here.found ⊎ LineBeyond (drop (pieces_len here.pieces) text) (b ∷ bs) here.found)
        → (outcome_after history text ≡ outcome_after history (text ++ (b ∷ bs))) × (history_after history text ≡ history_after history (text ++ (b ∷ bs)))
    go (inl e) = stays e
    go (inr (inl first)) = absurd (first_far history text (b ∷ bs) fault near here inside first)
    go (inr (inr next)) = absurd (after_far history text (b ∷ bs) fault near here inside next)
