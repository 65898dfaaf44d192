-- A decided fault stays, and so does the line where lexing begins again.
use Rattle.std.proofs.Common.{◌≡◌, ℕ, ◌+◌, ◌-◌, ◌≤◌, ◌<◌, Bool, true, false, cond, not, List, [], ◌∷◌, ◌++◌, length, drop, refl, ap, ◌∙◌, sym, subst, Some, arith, ◌⊎◌, inl, inr, length-append}
use Rattle.std.specs.Prelude.{◌&&◌, ◌||◌, ◌==◌, if◌then◌else◌, max, nat_eq, nat_lt, codes}
use Rattle.std.specs.List.{prefix_len, starts_with}
use Rattle.std.proofs.lemmas.Bool.{and_parts, eqb-true, ltb-true}
use Rattle.std.proofs.lemmas.List.{drop-append-le, length-drop}
use Rattle.std.proofs.lemmas.List.Sums.{sum_by-cons}
use Rattle.starlark_grammar.specs.Inner.KeptFaults.{is_in_margin}
use Rattle.starlark_grammar.specs.Words.{Text}
use Rattle.starlark_grammar.specs.Tokens.{Spanned, Fault, Lexeme, moved, Outcome}
use Rattle.starlark_grammar.specs.Margins.{begins_with_line_end, Margin, is_lf, margin_of, margin_len, open_widths}
use Rattle.starlark_grammar.specs.Pieces.{Before, Fails, Gap, Layout, Nothing, Other, Piece, first_margin}
use Rattle.starlark_grammar.specs.Reading.{History, after_all, history_after, lexemes_before, nothing, outcome_after, pieces_len, read_len}
use Rattle.starlark_grammar.proofs.Lists.{drop-sum}
use Rattle.starlark_grammar.proofs.Literals.Bodies.{starts_fits}
use Rattle.starlark_grammar.proofs.Reading.Onward.{StopsAt, after_by, first_step_after, outcome_after_nothing, read_by, stops_at}
use Rattle.starlark_grammar.proofs.Reading.Steps.{is_nothing}
use Rattle.starlark_grammar.proofs.Joining.Followed.{ends_line, ends_line_drop, ends_line_of}
use Rattle.starlark_grammar.proofs.Joining.FollowedMargins.{Followed, Whole, Within, followed, whole_after}
use Rattle.starlark_grammar.proofs.Joining.Joined.{margin_step_len, whole_from_ends}
use Rattle.starlark_grammar.specs.Joining.{DecidedFaultsStay, is_decided}
use Rattle.starlark_grammar.specs.Recovery.{is_margin_tab, is_tab, line_end_len, margin_line, next_line, restart, stopped_at}
use Rattle.starlark_grammar.proofs.Recovery.FollowedFaults.{FaultStays, fault_stays, margin_within}
use Rattle.starlark_grammar.proofs.Recovery.MarginTabs.{FirstFails, LineFails, TabAt, begins_with_tab, line_end_stands, line_is, no_line_end, tab_next, tab_no_line}

abbrev pub fault_stays_here : {history : History} {text : Text} {fault : Spanned Fault} (here : StopsAt history text fault) → FaultStays history text here.pieces here.found
fault_stays_here here = record { reads = here.longest.reads; fails = here.longest.stands_last }

-- Outcomes

before_same : (history : History) (text more : Text) (pieces : List Piece) (found : Spanned Fault) → ends_line text ≡ true → FaultStays history text pieces found
    → lexemes_before history.before (text ++ more) pieces ≡ lexemes_before history.before text pieces
before_same history text more (piece ∷ pieces) found ends stays = by history.before
  where
    by : (before : Before) → lexemes_before before (text ++ more) (piece ∷ pieces) ≡ lexemes_before before text (piece ∷ pieces)
    by Nothing = refl
    by before = refl
before_same history text more [] found ends stays = by history.before refl
  where
    by : (before : Before) → history.before ≡ before → lexemes_before before (text ++ more) [] ≡ lexemes_before before text []
    by Nothing e = go (followed text more (whole_from_ends text ends))
      where
        fails : first_margin (open_widths history.widths) text ≡ Fails found
        fails = sym (first_step_after history text (ap is_nothing e)) ∙ stays.fails

        go : Followed text more → (margin_of (text ++ more)).comments ≡ (margin_of text).comments
        go (Whole e f) = absurd (margin_within 0 [] (open_widths history.widths) text found e fails)
        go (Within some less f) = ap (λ (m : Margin). m.comments) f
    by Layout e = refl
    by Gap e = refl
    by Other e = refl

pub outcome_stays : (history : History) (text more : Text) (fault : Spanned Fault) → ends_line text ≡ true → StopsAt history text fault → fault.end < length text
    → (outcome_after history (text ++ more) ≡ outcome_after history text) × (history_after history (text ++ more) ≡ history_after history text)
outcome_stays history text more fault ends here less =
    let end = here.end in
    let stays = fault_stays history text more here.pieces here.found ends (fault_stays_here here) (omega (arith, less, end)) in
    let both = after_by history (text ++ more) here.pieces (Fails here.found) (record { reads = stays.reads; stands_last = stays.fails; no_piece = λ piece e. cc }) in
    let past = here.past in (
      both.0
          ∙ ap (λ (ls : List Lexeme). let o : Outcome = record { lexemes = ls; fault = Some (moved (pieces_len here.pieces) here.found) } in o) (before_same history text more here.pieces here.found ends (fault_stays_here here))
          ∙ sym here.is,
      both.1 ∙ sym past,
    )

pub read_stays : (history : History) (text more : Text) (fault : Spanned Fault) → ends_line text ≡ true → StopsAt history text fault → fault.end < length text → read_len history (text ++ more) ≡ read_len history text
read_stays history text more fault ends here less =
    let end = here.end in
    let stays = fault_stays history text more here.pieces here.found ends (fault_stays_here here) (omega (arith, less, end)) in
    read_by history (text ++ more) here.pieces (Fails here.found) (record { reads = stays.reads; stands_last = stays.fails; no_piece = λ piece e. cc })
    ∙ sym (read_by history text here.pieces (Fails here.found) here.longest)

-- Lines

feed_stays : (text more : Text) → ends_line text ≡ true → starts_with nat_eq (text ++ more) (codes "\n") ≡ starts_with nat_eq text (codes "\n")
feed_stays [] more h = cc
feed_stays (b ∷ bs) more h = refl

return_stays : (text more : Text) → ends_line text ≡ true → starts_with nat_eq (text ++ more) (codes "\r\n") ≡ starts_with nat_eq text (codes "\r\n")
return_stays [] more h = cc
return_stays (b ∷ []) more h = let feed : b ≡ 10 = eqb-true b 10 h in rw feed refl
return_stays (b ∷ c ∷ bs) more h = refl

pub begins_stays : (text more : Text) → ends_line text ≡ true → begins_with_line_end (text ++ more) ≡ begins_with_line_end text
begins_stays text more h = rw (feed_stays text more h, return_stays text more h) refl

line_end_stays : (text more : Text) → ends_line text ≡ true → line_end_len (text ++ more) ≡ line_end_len text
line_end_stays text more h = rw (feed_stays text more h, return_stays text more h) refl

abbrev is_other : ℕ → Bool
is_other b = not (is_lf b)

line_inside : (text : Text) → ends_line text ≡ true → prefix_len is_other text < length text
line_inside [] h = cc
line_inside (b ∷ []) h = let feed : b ≡ 10 = eqb-true b 10 h in rw feed (omega arith)
line_inside (b ∷ c ∷ bs) h = go (is_other b) (line_inside (c ∷ bs) h)
  where
    go : (passes : Bool) → prefix_len is_other (c ∷ bs) < length (c ∷ bs) → cond passes (1 + prefix_len is_other (c ∷ bs)) 0 < length (b ∷ c ∷ bs)
    go true less = omega (arith, less)
    go false less = omega arith

prefix_stays : (test : ℕ → Bool) (text more : Text) → prefix_len test text < length text → prefix_len test (text ++ more) ≡ prefix_len test text
prefix_stays test [] more less = absurd (omega (arith, less))
prefix_stays test (b ∷ bs) more less = go (test b) (prefix_stays test bs more) less
  where
    go : (passes : Bool) → (prefix_len test bs < length bs → prefix_len test (bs ++ more) ≡ prefix_len test bs) → cond passes (1 + prefix_len test bs) 0 < length (b ∷ bs)
        → cond passes (1 + prefix_len test (bs ++ more)) 0 ≡ cond passes (1 + prefix_len test bs) 0
    go true rest less = ap (λ n. 1 + n) (rest (omega (arith, less)))
    go false rest less = refl

pub next_line_stays : (text more : Text) (at : ℕ) → ends_line text ≡ true → at < length text → next_line (text ++ more) at ≡ next_line text at
unfolding next_line
next_line_stays text more at h less =
    let left : drop at (text ++ more) ≡ drop at text ++ more = drop-append-le at text more (omega (arith, less)) in
    let inside = line_inside (drop at text) (ends_line_drop at text less h) in
    let same : prefix_len is_other (drop at (text ++ more)) ≡ prefix_len is_other (drop at text) = ap (prefix_len is_other) left ∙ prefix_stays is_other (drop at text) more inside in
    omega (arith, same, inside, less, length-drop at text, length-append text more)

-- Margins

-- the last line of a margin that isn't the rest of its text
abbrev IsRest : Text → Type 0
IsRest text = margin_of text ≡ record { comments = (margin_of text).comments; at = length text; blanks = []; remainder = [] }

margin_line_stays : (text more : Text) (at : ℕ) → ends_line text ≡ true → at ≤ length text → (IsRest (drop at text) → ⊥) → (margin_line (text ++ more) at ≡ margin_line text at) × (margin_line text at < length text)
margin_line_stays text more at h inside some = go (followed (drop at text) more (whole_after at text (whole_from_ends text h)))
  where
    left : drop at (text ++ more) ≡ drop at text ++ more
    left = drop-append-le at text more inside

    go : Followed (drop at text) more → (margin_line (text ++ more) at ≡ margin_line text at) × (margin_line text at < length text)
    go (Whole e f) = absurd (some e)
    go (Within content less f) = (
      ap (λ (t : Text). at + (margin_of t).at) left ∙ ap (λ (m : Margin). at + m.at) f,
      omega (arith, less, inside, length-drop at text),
    )

-- a text whose fault isn't at its end isn't comment-only lines alone
some_content : (history : History) (text : Text) (fault : Spanned Fault) → is_nothing history.before ≡ true → StopsAt history text fault → fault.end < length text → IsRest text → ⊥
some_content history text fault begun here less whole = go here.pieces here.found (fault_stays_here here) here.end
  where
    go : (pieces : List Piece) (found : Spanned Fault) → FaultStays history text pieces found → pieces_len pieces + found.end ≡ fault.end → ⊥
    go [] found stays end = margin_within 0 [] (open_widths history.widths) text found whole (sym (first_step_after history text begun) ∙ stays.fails)
    go (piece ∷ pieces) found stays end =
        let len = margin_step_len 0 [] (open_widths history.widths) (margin_of text) piece (sym (first_step_after history text begun) ∙ stays.reads.0) in
        let total = sum_by-cons (λ (piece : Piece). piece.len) piece pieces in
        omega (arith, less, end, len, total, ap margin_len whole)

-- a tab at the start of a text, or at a line end, is in a margin
abbrev pub InMargin : History → Text → Spanned Fault → Type 0
InMargin history text fault = is_margin_tab text fault ≡ true → is_in_margin history.before text fault.begin ≡ true

-- after the line end of a tab's margin there is content
tab_content : (history : History) (text : Text) (fault : Spanned Fault) → InMargin history text fault → StopsAt history text fault → fault.end < length text → is_margin_tab text fault ≡ true → IsRest (drop (fault.begin + line_end_len (drop fault.begin text)) text) → ⊥
tab_content history text fault margin here less tab whole = go (begins_with_line_end (drop fault.begin text)) refl
  where
    parts : (is_tab fault.node ≡ true) × ((fault.begin == 0 || begins_with_line_end (drop fault.begin text)) ≡ true)
    parts = and_parts (is_tab fault.node) _ tab

    node : is_tab here.found.node ≡ true
    node = ap (λ (f : Spanned Fault). is_tab f.node) here.same ∙ parts.0

    at : TabAt (drop (pieces_len here.pieces) text) here.found
    at = tab_next (after_all history here.pieces) (drop (pieces_len here.pieces) text) here.found node here.longest.stands_last

    place : drop (pieces_len here.pieces) text ≡ drop fault.begin text
    place = let start = at.begin in let begin = here.begin in let same : pieces_len here.pieces ≡ fault.begin = omega (arith, start, begin) in ap (λ n. drop n text) same

    go : (line : Bool) → begins_with_line_end (drop fault.begin text) ≡ line → ⊥
    go false none =
        let zero_begin : fault.begin ≡ 0 = eqb-true fault.begin 0 (first_of (fault.begin == 0) (begins_with_line_end (drop fault.begin text)) none parts.1) in
        let no_len : line_end_len (drop fault.begin text) ≡ 0 = no_line_end (drop fault.begin text) none in
        let start : fault.begin + line_end_len (drop fault.begin text) ≡ 0 = omega (arith, zero_begin, no_len) in
        let begun : is_nothing history.before ≡ true = begun_of (is_nothing history.before) (fault.begin == 0) (begins_with_line_end (drop fault.begin text)) none (margin tab) in
        some_content history text fault begun here less (subst (λ n. IsRest (drop n text)) start whole)
      where
        begun_of : (begun zero line : Bool) → line ≡ false → (begun && zero || line) ≡ true → begun ≡ true
        begun_of true zero line e h = refl
        begun_of false zero line e h = let wrong : true ≡ false = sym h ∙ e in cc

        first_of : (x y : Bool) → y ≡ false → (x || y) ≡ true → x ≡ true
        first_of true y e h = refl
        first_of false y e h = let wrong : true ≡ false = sym h ∙ e in cc
    go true line = by at.stands
      where
        by : FirstFails (drop (pieces_len here.pieces) text) here.found ⊎ ((begins_with_tab (drop (pieces_len here.pieces) text) ≡ true) ⊎ LineFails (drop (pieces_len here.pieces) text) here.found) → ⊥
        by (inl first) = line_end_stands (drop (pieces_len here.pieces) text) here.found (ap begins_with_line_end place ∙ line) first
        by (inr (inl tab)) = let wrong : true ≡ false = sym (ap begins_with_line_end place ∙ line) ∙ tab_no_line (drop (pieces_len here.pieces) text) tab in cc
        by (inr (inr fails)) =
            let len : line_end_len (drop fault.begin text) ≡ fails.len = ap line_end_len (sym place) ∙ line_is (drop (pieces_len here.pieces) text) fails.len fails.line in
            let rest : drop (fault.begin + line_end_len (drop fault.begin text)) text ≡ drop fails.len (drop (pieces_len here.pieces) text) =
            drop-sum fault.begin (line_end_len (drop fault.begin text)) text ∙ ap (λ n. drop n (drop fault.begin text)) len ∙ ap (drop fails.len) (sym place) in
            margin_within fails.size fails.lexemes fails.levels (drop fails.len (drop (pieces_len here.pieces) text)) here.found (subst IsRest rest whole) fails.fails

-- Where lexing begins again

line_len_fits : (text : Text) → line_end_len text ≤ length text
line_len_fits text = by (starts_with nat_eq text (codes "\n")) (starts_with nat_eq text (codes "\r\n")) (starts_fits text (codes "\n")) (starts_fits text (codes "\r\n"))
  where
    by : (one two : Bool) → (one ≡ true → length (codes "\n") ≤ length text) → (two ≡ true → length (codes "\r\n") ≤ length text) → (if one then 1 else (if two then 2 else 0)) ≤ length text
    by true two h k = h refl
    by false true h k = k refl
    by false false h k = omega arith

stopped_stays : (history : History) (text more : Text) (fault : Spanned Fault) → InMargin history text fault → ends_line text ≡ true → StopsAt history text fault → fault.end < length text → (stopped_at (text ++ more) fault ≡ stopped_at text fault) × (stopped_at text fault < length text)
unfolding stopped_at
stopped_stays history text more fault margin h here less =
    let found = by (is_margin_tab text fault) refl in
    (ap (λ tab. stop tab (margin_line (text ++ more) (fault.begin + line_end_len (drop fault.begin (text ++ more))))) tabs ∙ found.0, found.1)
  where
    stop : Bool → ℕ → ℕ
    stop tab line = max (fault.end - 1) (if tab then line else fault.begin)

    left : drop fault.begin (text ++ more) ≡ drop fault.begin text ++ more
    left = let order = here.order in drop-append-le fault.begin text more (omega (arith, order, less))

    rest : ends_line (drop fault.begin text) ≡ true
    rest = let order = here.order in ends_line_drop fault.begin text (omega (arith, order, less)) h

    tabs : is_margin_tab (text ++ more) fault ≡ is_margin_tab text fault
    tabs = ap (λ begins. is_tab fault.node && (fault.begin == 0 || begins)) (ap begins_with_line_end left ∙ begins_stays (drop fault.begin text) more rest)

    len : line_end_len (drop fault.begin (text ++ more)) ≡ line_end_len (drop fault.begin text)
    len = ap line_end_len left ∙ line_end_stays (drop fault.begin text) more rest

    by : (tab : Bool) → is_margin_tab text fault ≡ tab
        → (stop tab (margin_line (text ++ more) (fault.begin + line_end_len (drop fault.begin (text ++ more)))) ≡ stop tab (margin_line text (fault.begin + line_end_len (drop fault.begin text)))) × (stop tab (margin_line text (fault.begin + line_end_len (drop fault.begin text))) < length text)
    by false e = let order = here.order in (refl, omega (arith, order, less))
    by true e =
        let order = here.order in
        let inside : fault.begin + line_end_len (drop fault.begin text) ≤ length text = omega (arith, order, less, line_len_fits (drop fault.begin text), length-drop fault.begin text) in
        let line = margin_line_stays text more (fault.begin + line_end_len (drop fault.begin text)) h inside (tab_content history text fault margin here less e) in
        let last = line.1 in (
          ap (λ n. stop true (margin_line (text ++ more) (fault.begin + n))) len ∙ ap (stop true) line.0,
          omega (arith, less, last),
        )

pub decided : (text : Text) (fault : Spanned Fault) → is_decided text fault ≡ true → (fault.end < length text) × (ends_line text ≡ true)
unfolding is_decided
decided text fault h =
    let parts = and_parts (nat_lt fault.end (length text)) _ h in
    (ltb-true fault.end (length text) parts.0, ends_line_of text parts.1)

-- where lexing begins again after a fault that is no tab in code
pub restart_stays : (history : History) (text more : Text) (fault : Spanned Fault) → InMargin history text fault → StopsAt history text fault → is_decided text fault ≡ true → restart (text ++ more) fault ≡ restart text fault
unfolding restart
restart_stays history text more fault margin here is =
    let parts = decided text fault is in
    let stopped = stopped_stays history text more fault margin parts.1 here parts.0 in
    ap (next_line (text ++ more)) stopped.0 ∙ next_line_stays text more (stopped_at text fault) parts.1 stopped.1

-- … and after one that is no tab, of whatever length
pub restart_untabbed : (text more : Text) (fault : Spanned Fault) → is_tab fault.node ≡ false → fault.begin ≤ fault.end → is_decided text fault ≡ true → restart (text ++ more) fault ≡ restart text fault
unfolding restart stopped_at
restart_untabbed text more fault other order is =
    let parts = decided text fault is in
    rw other (next_line_stays text more (max (fault.end - 1) fault.begin) parts.1 (omega (arith, parts.0, order)))

pub decided_faults_stay : DecidedFaultsStay
decided_faults_stay text more fault has is =
    let here = stops_at nothing text fault (ap (λ (o : Outcome). o.fault) (outcome_after_nothing text) ∙ has) in
    let parts = decided text fault is in (
      sym (outcome_after_nothing (text ++ more)) ∙ (outcome_stays nothing text more fault parts.1 here parts.0).0 ∙ outcome_after_nothing text,
      restart_stays nothing text more fault (λ e. (and_parts (is_tab fault.node) _ e).1) here is,
    )
