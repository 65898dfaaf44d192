-- Open quotes: where they are, and their brackets.
use Rattle.std.proofs.Common.{◌≡◌, ℕ, ◌+◌, ◌-◌, ◌≤◌, ◌<◌, Bool, true, false, not, List, [], ◌∷◌, ◌++◌, length, take, drop, refl, ap, ◌∙◌, sym, subst, Option, Some, None, arith}
use Rattle.std.specs.Prelude.{⊤, ◌&&◌, if◌then◌else◌, cond, count_by, nat_eq, nat_lt}
use Rattle.std.proofs.lemmas.Bool.{and_parts, both_ways, eqb-true, ltb-true}
use Rattle.std.proofs.lemmas.Bool.Decides.{nat_tests}
use Rattle.std.proofs.lemmas.List.Sums.{sum_by-append}
use Rattle.std.proofs.lemmas.List.{length-drop, length-take-le}
use Rattle.starlark_grammar.specs.declared.class.Class.{Class}
use Rattle.starlark_grammar.specs.declared.class.LiteralKind.{LiteralKind as Kind}
use Rattle.starlark_grammar.specs.declared.class.LiteralKind.TheVariants.{Text as OfText, Bytes as OfBytes, FString as OfFString}
use Rattle.starlark_grammar.specs.declared.class.Terminal.TheVariants.{ClosingRound, OpeningRound}
use Rattle.starlark_grammar.specs.Words.{Text, Skipped, Comment, Tabs, LineEnd, Opener, Reserved, Identifier, Decimal, Hexadecimal, Octal, Binary, Float, Fixed, begins, class_in, language}
use Rattle.starlark_grammar.specs.Depths.{Mode, Outside, InText, AtTop, Deeper, is_any_closing, is_any_opening, is_balanced, mode_after, is_outside}
use Rattle.starlark_grammar.specs.Front.{longest_front}
use Rattle.starlark_grammar.specs.Items.{Stop, Closing, Line, BadEscape, Body, body_at, body_len}
use Rattle.starlark_grammar.specs.KeptLines.{is_closing_byte, is_open_quote, is_opening_byte, is_unfinished, tokens_past, with_bracket, with_brackets}
use Rattle.starlark_grammar.specs.Margins.{Margin, fits, has_tab, is_content, margin_len, margin_of, width_of}
use Rattle.starlark_grammar.specs.Pieces.{Before, Nothing, Layout, Gap, Other, Piece, Step, Stands, Fails, Ends, Situation, by_before, by_mode, counts, fault, front_step, in_code, is_bang, literal_by, margin_step, more_quotes, opener, opening_of, starts_zero, step_at, takes_bang, token, word_step}
use Rattle.starlark_grammar.specs.Reading.{History, after_all, history_after, next_step, outcome_after, pieces_len, situation}
use Rattle.starlark_grammar.specs.Tokens.{Fault, Indentation, InvalidTab, Lexeme, Newline, Opening, Spanned, Token, Word}
use Rattle.starlark_grammar.proofs.Choices.{either}
use Rattle.starlark_grammar.proofs.Joining.Settled.{situation_after}
use Rattle.starlark_grammar.proofs.Lists.{drop-sum}
use Rattle.starlark_grammar.proofs.Literals.Bodies.{StopFits, body_fits}
use Rattle.starlark_grammar.proofs.Literals.LiteralSteps.{escape_holds}
use Rattle.starlark_grammar.proofs.Reading.Onward.{StopsAt, stops_at}
use Rattle.starlark_grammar.proofs.Reading.Steps.{is_nothing}
use Rattle.starlark_grammar.proofs.Recovery.LineCuts.{Alike, alike_other}
use Rattle.starlark_grammar.proofs.Words.Fronts.{front_sound}

-- Steps

-- an unfinished literal in code begins where the step does, has a byte, and ends before an LF or at the end of the text
record Unfinished (text : Text) (fault : Spanned Fault) : Type 0 where
  start : fault.begin ≡ 0
  some : 1 ≤ fault.end
  feed : fault.end < length text → begins (nat_eq 10) (drop fault.end text) ≡ true

abbrev StepQuote : Text → Step → Type 0
StepQuote text (Fails fault) = is_unfinished fault.node ≡ true → Unfinished text fault
StepQuote text step = ⊤

-- no fault of a margin is one
abbrev StepOther : Step → Type 0
StepOther (Fails fault) = is_unfinished fault.node ≡ false
StepOther step = ⊤

margin_other : (len : ℕ) (lexemes : List Lexeme) (levels : List ℕ) (margin : Margin) → StepOther (margin_step len lexemes levels margin)
unfolding margin_step
margin_other len lexemes levels margin = go (not (is_content margin.remainder)) (has_tab margin) (fits (width_of margin) levels) _ _ (len + margin_len margin)
  where
    go : (blank tab fitting : Bool) (first last : Piece) (end : ℕ) → StepOther (if blank then Stands first else (if tab then fault 0 InvalidTab 0 else (if fitting then Stands last else fault 0 Indentation end)))
    go true tab fitting first last end = tt
    go false true fitting first last end = refl
    go false false true first last end = tt
    go false false false first last end = refl

module _ (text : Text) where
  quote_none : (step : Step) → StepOther step → StepQuote text step
  quote_none (Fails fault) none = λ is. absurd (both_ways (is_unfinished fault.node) none is)
  quote_none (Stands piece) none = tt
  quote_none Ends none = tt

  -- the literal after an opening of some bytes
  quote_literal : (mode : Mode) (kind : Kind) (opening : Opening) (len : ℕ) (rest : Text) (body : Body) (stop : Stop) → 1 ≤ len → drop len text ≡ rest → StopFits opening (drop (body_len body) rest) stop → StepQuote text (literal_by mode kind opening len rest body stop)
  quote_literal mode kind opening len rest body Closing some left fits = tt
  quote_literal mode kind opening len rest body (BadEscape read last) some left fits = escape_holds (StepQuote text) _ _ (λ end is. cc) (λ escape end is. cc)
  quote_literal mode kind opening len rest body Line some left fits = λ is. record {
    start = refl;
    some = omega (arith, some);
    feed = λ less. ap (begins (nat_eq 10)) (drop-sum len (body_len body) text ∙ ap (drop (body_len body)) left) ∙ fits.1;
  }
  quote_literal mode kind opening len rest body stop some left fits = λ is. record {
    start = refl;
    some = omega (arith, some);
    feed = λ less. absurd (omega (arith, less, length-drop len text, ap (λ (t : Text). length t) left));
  }

  quote_opener : (mode : Mode) (kind : Kind) (opening : Opening) (len : ℕ) (rest : Text) → 1 ≤ len → drop len text ≡ rest → StepQuote text (opener mode kind opening len rest)
  quote_opener mode OfFString opening len rest some left = tt
  quote_opener mode OfText opening len rest some left = quote_literal mode OfText opening (len + more_quotes opening) (drop (more_quotes opening) rest) (body_at (record { kind = OfText; opening = opening }) (drop (more_quotes opening) rest)) _
      (omega (arith, some)) (drop-sum len (more_quotes opening) text ∙ ap (drop (more_quotes opening)) left) (body_fits (record { kind = OfText; opening = opening }) (drop (more_quotes opening) rest)).1
  quote_opener mode OfBytes opening len rest some left = quote_literal mode OfBytes opening (len + more_quotes opening) (drop (more_quotes opening) rest) (body_at (record { kind = OfBytes; opening = opening }) (drop (more_quotes opening) rest)) _
      (omega (arith, some)) (drop-sum len (more_quotes opening) text ∙ ap (drop (more_quotes opening)) left) (body_fits (record { kind = OfBytes; opening = opening }) (drop (more_quotes opening) rest)).1

  quote_word : (s : Situation) (class : Class) (word rest : Text) → 1 ≤ length word → drop (length word) text ≡ rest → StepQuote text (word_step s class word rest)
  quote_word s Skipped word rest some left = tt
  quote_word s Comment word rest some left = tt
  quote_word s Tabs word rest some left = λ is. cc
  quote_word s LineEnd word rest some left = either (StepQuote text) (counts s.mode s.is_balanced) _ _ (quote_none _ (margin_other (length word) (record { begin = 0; node = Newline; end = length word } ∷ []) s.levels (margin_of rest))) tt
  quote_word s (Opener kind is_raw quote) word rest some left = quote_opener s.mode kind (opening_of is_raw quote rest) (length word) rest some left
  quote_word s Reserved word rest some left = λ is. cc
  quote_word s Identifier word rest some left = tt
  quote_word s Decimal word rest some left = either (StepQuote text) (starts_zero word) _ _ (λ is. cc) tt
  quote_word s Hexadecimal word rest some left = tt
  quote_word s Octal word rest some left = tt
  quote_word s Binary word rest some left = tt
  quote_word s Float word rest some left = tt
  quote_word s (Fixed terminal) word rest some left = tt

  quote_front : (s : Situation) (found : Option (Class × ℕ)) → longest_front (class_in language) text ≡ found → StepQuote text (front_step s text found)
  quote_front s None e = λ is. cc
  quote_front s (Some front) e =
      let sound = front_sound (class_in language) text front.0 front.1 e in
      let len : length (take front.1 text) ≡ front.1 = length-take-le front.1 text sound.1 in
      quote_word s front.0 (take front.1 text) (drop front.1 text) (omega (arith, sound.0, len)) (ap (λ n. drop n text) len)

quote_code : (s : Situation) (text : Text) → StepQuote text (in_code language s text)
quote_code s [] = tt
quote_code s (b ∷ bs) = either (StepQuote (b ∷ bs)) (takes_bang s.mode s.before && is_bang (b ∷ bs)) _ _ tt (quote_front (b ∷ bs) s (longest_front (class_in language) (b ∷ bs)) refl)

-- outside of f-strings it is none of a margin
quote_step : (history : History) (text : Text) (fault : Spanned Fault) → next_step language history text ≡ Fails fault → is_unfinished fault.node ≡ true → is_outside (mode_after history.tokens) ≡ true → (is_nothing history.before ≡ false) × Unfinished text fault
unfolding next_step situation step_at
quote_step history text fault e is outside = by history.before refl e
  where
    at : (mode : Mode) → is_outside mode ≡ true → by_mode language (situation history) mode text ≡ Fails fault → Unfinished text fault
    at Outside outside e = subst (StepQuote text) e (quote_code (situation history) text) is
    at (InText opening) outside e = cc
    at AtTop outside e = cc
    at Deeper outside e = cc

    by : (before : Before) → is_nothing history.before ≡ is_nothing before → by_before language (situation history) before text ≡ Fails fault → (is_nothing history.before ≡ false) × Unfinished text fault
    by Nothing same e = absurd (both_ways (is_unfinished fault.node) (subst StepOther e (margin_other 0 [] (situation history).levels (margin_of text))) is)
    by Layout same e = (same, at (mode_after history.tokens) outside e)
    by Gap same e = (same, at (mode_after history.tokens) outside e)
    by Other same e = (same, at (mode_after history.tokens) outside e)

-- Texts

-- an open quote of a text: it is in code, has a byte, and an LF stops it
pub record QuotePlace (history : History) (text : Text) (fault : Spanned Fault) : Type 0 where
  pub here : StopsAt history text fault
  pub begun : is_nothing (after_all history here.pieces).before ≡ false
  pub outside : is_outside (mode_after (after_all history here.pieces).tokens) ≡ true
  pub node : is_unfinished fault.node ≡ true
  pub start : pieces_len here.pieces ≡ fault.begin
  pub some : fault.begin < fault.end
  pub inside : fault.end < length text
  pub feed : begins (nat_eq 10) (drop fault.end text) ≡ true

pub quote_parts : (mode : Mode) (text : Text) (fault : Spanned Fault) → is_open_quote mode text fault ≡ true → (is_unfinished fault.node ≡ true) × (is_outside mode ≡ true) × (fault.end < length text)
quote_parts mode text fault is =
    let one = and_parts (is_unfinished fault.node && is_outside mode) (nat_lt fault.end (length text)) is in
    let two = and_parts (is_unfinished fault.node) (is_outside mode) one.0 in
    (two.0, two.1, ltb-true fault.end (length text) one.1)

pub quote_place : (history : History) (text : Text) (fault : Spanned Fault) → (outcome_after history text).fault ≡ Some fault → is_open_quote (mode_after (history_after history text).tokens) text fault ≡ true → QuotePlace history text fault
quote_place history text fault has is =
    record {
      here = here;
      begun = step.0;
      outside = outside;
      node = parts.0;
      start = start;
      some = omega (arith, some, begin, end, first);
      inside = inside;
      feed = ap (λ n. begins (nat_eq 10) (drop n text)) (sym end) ∙ ap (begins (nat_eq 10)) (drop-sum at here.found.end text) ∙ unfinished_here.feed (omega (arith, inside, end, length-drop at text));
    }
  where
    here : StopsAt history text fault
    here = stops_at history text fault has

    at : ℕ
    at = pieces_len here.pieces

    parts : (is_unfinished fault.node ≡ true) × (is_outside (mode_after (history_after history text).tokens) ≡ true) × (fault.end < length text)
    parts = quote_parts (mode_after (history_after history text).tokens) text fault is

    outside : is_outside (mode_after (after_all history here.pieces).tokens) ≡ true
    outside = ap (λ (h : History). is_outside (mode_after h.tokens)) (sym here.past) ∙ parts.1

    inside : fault.end < length text
    inside = parts.2

    step : (is_nothing (after_all history here.pieces).before ≡ false) × Unfinished (drop at text) here.found
    step = quote_step (after_all history here.pieces) (drop at text) here.found here.longest.stands_last (ap (λ (f : Spanned Fault). is_unfinished f.node) here.same ∙ parts.0) outside

    unfinished_here : Unfinished (drop at text) here.found
    unfinished_here = step.1

    some : 1 ≤ here.found.end
    some = unfinished_here.some

    first : here.found.begin ≡ 0
    first = unfinished_here.start

    begin : at + here.found.begin ≡ fault.begin
    begin = here.begin

    end : at + here.found.end ≡ fault.end
    end = here.end

    start : pieces_len here.pieces ≡ fault.begin
    start = omega (arith, begin, first)

-- Brackets

-- where as many were opened as were closed, what was read before makes no difference
bracket_settled : (b : ℕ) (tokens earlier : List Token) → is_balanced earlier ≡ true → with_bracket b (tokens ++ earlier) ≡ with_bracket b tokens ++ earlier
unfolding is_balanced
bracket_settled b tokens earlier balanced = go (is_opening_byte b) (is_closing_byte b) (surplus_same tokens) (nat_lt (count_by is_any_closing tokens) (count_by is_any_opening tokens)) refl
  where
    surplus_same : (tokens : List Token) → nat_lt (count_by is_any_closing (tokens ++ earlier)) (count_by is_any_opening (tokens ++ earlier)) ≡ nat_lt (count_by is_any_closing tokens) (count_by is_any_opening tokens)
    surplus_same tokens =
        let same : count_by is_any_opening earlier ≡ count_by is_any_closing earlier = eqb-true _ _ balanced in
        rw (sum_by-append (λ token. cond (is_any_opening token) 1 0) tokens earlier, sum_by-append (λ token. cond (is_any_closing token) 1 0) tokens earlier, same)
        (less_both (count_by is_any_closing tokens) (count_by is_any_opening tokens) (count_by is_any_closing earlier))
      where
        less_both : (a b c : ℕ) → nat_lt (a + c) (b + c) ≡ nat_lt a b
        less_both a b c = grind (arith, nat_tests)

    go : (opens closes : Bool) {one other : Bool} → one ≡ other → (more : Bool) → other ≡ more
        → (if opens then Word OpeningRound ∷ (tokens ++ earlier) else (if closes && one then Word ClosingRound ∷ (tokens ++ earlier) else tokens ++ earlier)) ≡ (if opens then Word OpeningRound ∷ tokens else (if closes && other then Word ClosingRound ∷ tokens else tokens)) ++ earlier
    go true closes same more e = refl
    go false false same more e = refl
    go false true same true e = rw (same, e) refl
    go false true same false e = rw (same, e) refl

pub brackets_settled : (bytes : Text) (tokens earlier : List Token) → is_balanced earlier ≡ true → with_brackets (tokens ++ earlier) bytes ≡ with_brackets tokens bytes ++ earlier
unfolding with_brackets
brackets_settled [] tokens earlier balanced = refl
brackets_settled (b ∷ bs) tokens earlier balanced = ap (λ (ts : List Token). with_brackets ts bs) (bracket_settled b tokens earlier balanced) ∙ brackets_settled bs (with_bracket b tokens) earlier balanced

-- the history after a fault after which all stays open, …
abbrev pub past_fault : History → Text → Spanned Fault → History
past_fault before text fault = record before { tokens = tokens_past before.tokens text fault; before = Other }

-- … if it is an open quote
abbrev with_quote : Text → History → History
with_quote bytes history = record history { tokens = with_brackets history.tokens bytes; before = Other }

alike_quote : (bytes : Text) (one other : History) → Alike one other → Alike (with_quote bytes one) (with_quote bytes other)
alike_quote bytes one other alike = record {
  earlier = alike.earlier;
  before = alike.before;
  common = with_quote bytes alike.common;
  settled = alike.settled;
  other_settled = alike.other_settled;
  one_is = ap (with_quote bytes) alike.one_is ∙ ap (λ (ts : List Token). past alike.earlier ts) (brackets_settled bytes alike.common.tokens alike.earlier.tokens alike.settled.balanced);
  other_is = ap (with_quote bytes) alike.other_is ∙ ap (λ (ts : List Token). past alike.before ts) (brackets_settled bytes alike.common.tokens alike.before.tokens alike.other_settled.balanced);
}
  where
    past : History → List Token → History
    past earlier tokens = record { tokens = tokens; widths = earlier.widths ++ alike.common.widths; before = Other }

-- alike histories have the same mode
pub alike_mode : (one other : History) → Alike one other → mode_after one.tokens ≡ mode_after other.tokens
unfolding situation
alike_mode one other alike =
    ap (λ (past : History). mode_after past.tokens) alike.one_is ∙ ap (λ (s : Situation). s.mode) (situation_after alike.earlier alike.common alike.settled)
    ∙ sym (ap (λ (past : History). mode_after past.tokens) alike.other_is ∙ ap (λ (s : Situation). s.mode) (situation_after alike.before alike.common alike.other_settled))

pub past_alike : (one other : History) (text : Text) (fault : Spanned Fault) → Alike one other → Alike (past_fault one text fault) (past_fault other text fault)
past_alike one other text fault alike = by (is_open_quote (mode_after one.tokens) text fault) refl
  where
    bytes : Text
    bytes = take (fault.end - fault.begin) (drop fault.begin text)

    by : (quote : Bool) → is_open_quote (mode_after one.tokens) text fault ≡ quote → Alike (past_fault one text fault) (past_fault other text fault)
    by true e = rw (e, ap (λ mode. is_open_quote mode text fault) (sym (alike_mode one other alike)) ∙ e) (alike_quote bytes one other alike)
    by false e = rw (e, ap (λ mode. is_open_quote mode text fault) (sym (alike_mode one other alike)) ∙ e) (alike_other one other alike)
