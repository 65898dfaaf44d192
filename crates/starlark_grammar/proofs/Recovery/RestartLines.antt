-- Lexing begins again right after an LF or at the end of the text, and no LF is before that after the fault or its tab.
use Rattle.std.proofs.Common.{◌≡◌, ℕ, suc, ◌+◌, ◌-◌, ◌≤◌, ◌<◌, Bool, true, false, not, List, [], ◌∷◌, ◌++◌, length, take, drop, get_or, refl, ap, ◌∙◌, sym, subst, Some, arith, ◌⊎◌, inl, inr, length-append, append_assoc, cond, one-add}
use Rattle.std.specs.Prelude.{◌&&◌, ◌||◌, ◌==◌, nat_eq, max, sum_by, take_while, codes}
use Rattle.std.specs.Cmp.Lexicographic.{pointwise}
use Rattle.std.specs.List.{ends_with, list_all, list_any, prefix_len}
use Rattle.std.specs.Str.{byte, bytes_eq}
use Rattle.std.proofs.lemmas.Bool.{and_parts, both_ways, cases_lt, eqb-true, not-false}
use Rattle.std.proofs.lemmas.List.{get_or-drop, length-drop, take-append-drop}
use Rattle.std.proofs.lemmas.List.Sums.{prefix_len-le-length, prefix_len_passes, prefix_len_stops, sum_by-cons}
use Rattle.std.proofs.lemmas.Option.{get_or_from_slice_get, slice_get-get_or}
use Rattle.std.proofs.Math.Seq.{drop-append_seam}
use Rattle.starlark_grammar.specs.Words.{Text, language}
use Rattle.starlark_grammar.specs.Tokens.{Outcome, Fault, Spanned}
use Rattle.starlark_grammar.specs.Margins.{begins_with_line_end, blanks_len, comment_lines, has_tab, is_blank, is_comment_only, is_lf, lines, margin_of}
use Rattle.starlark_grammar.specs.Pieces.{Piece}
use Rattle.starlark_grammar.specs.Reading.{outcome, after_all, nothing, pieces_len}
use Rattle.starlark_grammar.specs.Longest.{IsReading}
use Rattle.starlark_grammar.proofs.Lists.{drop-sum}
use Rattle.starlark_grammar.proofs.Reading.Steps.{is_nothing}
use Rattle.starlark_grammar.proofs.Order.OrderedLexemes.{Split, first_line}
use Rattle.starlark_grammar.proofs.Joining.Followed.{ends_line, ends_line_made}
use Rattle.starlark_grammar.proofs.Joining.FollowedMargins.{has_whole_lines, lines_append}
use Rattle.starlark_grammar.proofs.Joining.Joined.{margin_step_len, whole_from_ends}
use Rattle.starlark_grammar.proofs.Joining.Tabs.{first_step}
use Rattle.starlark_grammar.proofs.Reading.Onward.{StopsAt, outcome_after_nothing, stops_at}
use Rattle.starlark_grammar.proofs.Recovery.MarginTabs.{FirstFails, BeginsLine, LineFails, TabLater, begins_with_tab, line_end_stands, line_is, margin_tab, no_line_end, tab_first, tab_later, tab_no_line}
use Rattle.starlark_grammar.proofs.Recovery.ShortenedFaults.{none_before}
use Rattle.starlark_grammar.specs.Recovery.{is_margin_tab, is_tab, line_end_len, next_line, restart, stopped_at}
use Rattle.starlark_grammar.specs.RecoveryLaws.{IsLfAt, LeadsToTab, RestartsAfterTabs, RestartsAtLines, RestartsAtNextLine}
use Rattle.starlark_grammar.proofs.Joining.LineCuts.{one_line}

-- Lines

abbrev is_other : ℕ → Bool
is_other b = not (is_lf b)

other_no_lf : (b : ℕ) → is_other b ≡ true → b ≡ 10 → ⊥
other_no_lf b other is = both_ways _ (ap is_other is) other

pub lf_of : (b : ℕ) → is_other b ≡ false → b ≡ 10
lf_of b other = eqb-true b 10 (not-false (b == 10) other)

-- the next line begins at the text's end or right after an LF, …
next_line_begins : (text : Text) (at : ℕ) → (next_line text at ≡ length text) ⊎ IsLfAt text (next_line text at - 1)
unfolding next_line
next_line_begins text at = by (cases_lt (prefix_len is_other (drop at text)) (length (drop at text)))
  where
    by : (prefix_len is_other (drop at text) < length (drop at text)) ⊎ (length (drop at text) ≤ prefix_len is_other (drop at text)) → (next_line text at ≡ length text) ⊎ IsLfAt text (next_line text at - 1)
    by (inl less) =
        let len = length-drop at text in
        let lf = lf_of (get_or (drop at text) (prefix_len is_other (drop at text)) 0) (prefix_len_stops is_other (drop at text) 0 less) in
        let place : next_line text at - 1 ≡ at + prefix_len is_other (drop at text) = omega (arith, less, len) in
        let here : get_or text (at + prefix_len is_other (drop at text)) 0 ≡ 10 = sym (get_or-drop at text (prefix_len is_other (drop at text)) 0) ∙ lf in
        inr (rw place (slice_get-get_or text (at + prefix_len is_other (drop at text)) 0 (omega (arith, less, len)) ∙ ap Some here))
    by (inr whole) = let len = length-drop at text in inl (omega (arith, whole, len))

-- … and no LF is between an offset and the line after it.
next_line_next : (text : Text) (from at : ℕ) → from ≤ at → at + 1 < next_line text from → IsLfAt text at → ⊥
unfolding next_line
next_line_next text from at later less lf =
    let inside : at - from < prefix_len is_other (drop from text) = omega (arith, later, less) in
    let place : from + (at - from) ≡ at = omega (arith, later) in
    let here : get_or (drop from text) (at - from) 0 ≡ 10 = get_or-drop from text (at - from) 0 ∙ ap (λ n. get_or text n 0) place ∙ get_or_from_slice_get text at 10 0 lf in
    other_no_lf _ (prefix_len_passes is_other (drop from text) (at - from) 0 inside) here

pub restarts_at_lines : RestartsAtLines
unfolding restart
restarts_at_lines text fault has = next_line_begins text (stopped_at text fault)

-- where the reading stopped by another fault than a tab's
stopped_other : (text : Text) (fault : Spanned Fault) → is_tab fault.node ≡ false → stopped_at text fault ≡ max (fault.end - 1) fault.begin
unfolding stopped_at
stopped_other text fault none = rw none refl

pub restarts_at_next_line : RestartsAtNextLine
unfolding restart
restarts_at_next_line text fault has none at begin end less lf =
    let stopped = stopped_other text fault none in
    next_line_next text (stopped_at text fault) at (omega (arith, stopped, begin, end)) less lf

-- Comment-only lines

abbrev lines_sum : List Text → ℕ
lines_sum ls = sum_by (λ (line : Text). length line) ls

whole_append : (one other : Text) → has_whole_lines one ≡ true → has_whole_lines other ≡ true → has_whole_lines (one ++ other) ≡ true
whole_append [] other h k = k
whole_append (b ∷ []) [] h k = h
whole_append (b ∷ []) (c ∷ other) h k = k
whole_append (b ∷ c ∷ one) other h k = whole_append (c ∷ one) other h k

nil_parts : (one other : Text) → one ++ other ≡ [] → (one ≡ []) × (other ≡ [])
nil_parts [] [] e = (refl, refl)
nil_parts [] (b ∷ other) e = cc
nil_parts (b ∷ one) other e = cc

-- The comment-only lines at the front of a text, and what is left after them.
record Passed (text : Text) (ls : List Text) : Type 0 where
  front : Text
  rest : Text
  whole : text ≡ front ++ rest
  len : length front ≡ lines_sum (take_while is_comment_only ls)
  alone : list_all is_comment_only (lines front) ≡ true
  ended : (rest ≡ []) ⊎ (has_whole_lines front ≡ true)

passed : (text : Text) (ls : List Text) → lines text ≡ ls → Passed text ls
unfolding lines
passed text [] e = record { front = []; rest = text; whole = refl; len = refl; alone = refl; ended = inr refl }
passed text (line ∷ more) e = by (is_comment_only line) refl (passed split.rest more split.left)
  where
    split : Split text line more
    split = first_line text line more e

    by : (test : Bool) → is_comment_only line ≡ test → Passed split.rest more → Passed text (line ∷ more)
    by false is later = record { front = []; rest = text; whole = refl; len = rw is refl; alone = refl; ended = inr refl }
    by true is later = record {
      front = line ++ later.front;
      rest = later.rest;
      whole = split.whole ∙ ap (λ (t : Text). line ++ t) later.whole ∙ sym (append_assoc line later.front later.rest);
      len = rw (is, one-add) (omega (arith, length-append line later.front, later.len, sum_by-cons (λ (l : Text). length l) line (take_while is_comment_only more)));
      alone = alone split.ended;
      ended = ended split.ended later.ended;
    }
      where
        whole_line : (front : Text) → line ≡ front ++ 10 ∷ [] → has_whole_lines line ≡ true
        whole_line front same = whole_from_ends line (ap ends_line same ∙ ends_line_made front)

        alone : (split.rest ≡ []) ⊎ ((front : Text) × (line ≡ front ++ 10 ∷ [])) → list_all is_comment_only (lines (line ++ later.front)) ≡ true
        alone (inl none) =
            let front : later.front ≡ split.rest = (nil_parts later.front later.rest (sym later.whole ∙ none)).0 ∙ sym none in
            let last : more ≡ [] = sym split.left ∙ ap lines none in
            ap (λ (t : Text). list_all is_comment_only (lines (line ++ t))) front ∙ ap (λ (t : Text). list_all is_comment_only (lines t)) (sym split.whole)
            ∙ ap (list_all is_comment_only) e ∙ ap (λ (ls : List Text). is_comment_only line && list_all is_comment_only ls) last ∙ ap (λ (b : Bool). b && true) is
        alone (inr found) =
            let size : length line ≡ length found.0 + 1 = ap length found.1 ∙ length-append found.0 (10 ∷ []) in
            ap (list_all is_comment_only) (lines_append line later.front (whole_line found.0 found.1))
            ∙ ap (λ (ls : List Text). list_all is_comment_only (ls ++ lines later.front)) (one_line line split.one (omega (arith, size)))
            ∙ ap (λ (b : Bool). b && list_all is_comment_only (lines later.front)) is ∙ later.alone

        ended : (split.rest ≡ []) ⊎ ((front : Text) × (line ≡ front ++ 10 ∷ [])) → (later.rest ≡ []) ⊎ (has_whole_lines later.front ≡ true) → (later.rest ≡ []) ⊎ (has_whole_lines (line ++ later.front) ≡ true)
        ended (inl none) done = inl (nil_parts later.front later.rest (sym later.whole ∙ none)).1
        ended (inr found) (inl none) = inl none
        ended (inr found) (inr all) = inr (whole_append line later.front (whole_line found.0 found.1) all)

-- as the last byte is compared
whole_ends : (text : Text) → has_whole_lines text ≡ true → (text ≡ []) ⊎ (ends_with nat_eq text (codes "\n") ≡ true)
whole_ends [] h = inl refl
whole_ends (b ∷ []) h = let lf : b ≡ 10 = eqb-true b 10 h in inr (rw lf refl)
whole_ends (b ∷ c ∷ bs) h = by (whole_ends (c ∷ bs) h)
  where
    by : (c ∷ bs ≡ []) ⊎ (ends_with nat_eq (c ∷ bs) (codes "\n") ≡ true) → (b ∷ c ∷ bs ≡ []) ⊎ (ends_with nat_eq (b ∷ c ∷ bs) (codes "\n") ≡ true)
    by (inl none) = cc
    by (inr ends) =
        let less : length (b ∷ c ∷ bs) - 1 ≡ suc (length (c ∷ bs) - 1) = omega arith in
        inr (ap (λ n. pointwise nat_eq (codes "\n") (drop n (b ∷ c ∷ bs))) less ∙ ends)

-- Tabs in margins

-- the first tab of some blanks, …
split_tab : (blanks : Text) → list_any (nat_eq 9) blanks ≡ true → list_all is_blank blanks ≡ true → (one other : Text) × (blanks ≡ one ++ (9 ∷ other)) × (list_all is_blank one ≡ true)
split_tab [] h all = cc
split_tab (b ∷ bs) h all = by (nat_eq 9 b) refl h (λ more. split_tab bs more (and_parts (is_blank b) (list_all is_blank bs) all).1)
  where
    first : is_blank b ≡ true
    first = (and_parts (is_blank b) (list_all is_blank bs) all).0

    by : (tab : Bool) → nat_eq 9 b ≡ tab → (tab || list_any (nat_eq 9) bs) ≡ true
        → (list_any (nat_eq 9) bs ≡ true → (one other : Text) × (bs ≡ one ++ (9 ∷ other)) × (list_all is_blank one ≡ true)) → (one other : Text) × (b ∷ bs ≡ one ++ (9 ∷ other)) × (list_all is_blank one ≡ true)
    by true is h later = ([], bs, ap (λ (n : ℕ). n ∷ bs) (sym (eqb-true 9 b is)), refl)
    by false is h later =
        let rest = later h in
        (b ∷ rest.0, rest.1, ap (λ (t : Text). b ∷ t) rest.2, rw (first, rest.3) refl)

-- … which are those at the front of a line,
all_blank : (line : Text) → list_all is_blank (take (blanks_len line) line) ≡ true
all_blank [] = refl
all_blank (b ∷ bs) = by (is_blank b) refl (all_blank bs)
  where
    by : (test : Bool) → is_blank b ≡ test → list_all is_blank (take (blanks_len bs) bs) ≡ true → list_all is_blank (take (cond test (1 + blanks_len bs) 0) (b ∷ bs)) ≡ true
    by true is rest = rw one-add (rw is rest)
    by false is rest = refl

-- … and are on one line with the tab.
blank_other : (b : ℕ) → is_blank b ≡ true → is_other b ≡ true
blank_other b h = by (b == 32) (b == 9) (b == 13) refl refl refl h
  where
    by : (space tab return : Bool) → (b == 32) ≡ space → (b == 9) ≡ tab → (b == 13) ≡ return → ((space || tab) || return) ≡ true → is_other b ≡ true
    by true tab return one two three h = let is : b ≡ 32 = eqb-true b 32 one in rw is refl
    by false true return one two three h = let is : b ≡ 9 = eqb-true b 9 two in rw is refl
    by false false true one two three h = let is : b ≡ 13 = eqb-true b 13 three in rw is refl
    by false false false one two three h = cc

blanks_before : (blanks rest : Text) → list_all is_blank blanks ≡ true → length blanks < prefix_len is_other (blanks ++ (9 ∷ rest))
blanks_before [] rest h = omega arith
blanks_before (b ∷ bs) rest h =
    let parts = and_parts (is_blank b) (list_all is_blank bs) h in
    let later = blanks_before bs rest parts.1 in
    rw (blank_other b parts.0) (omega (arith, later))

tab_before : (text : Text) (at : ℕ) (blanks rest : Text) → drop at text ≡ blanks ++ (9 ∷ rest) → list_all is_blank blanks ≡ true → at + length blanks < next_line text at
unfolding next_line
tab_before text at blanks rest same h =
    let before : length blanks < prefix_len is_other (drop at text) = subst (λ (t : Text). length blanks < prefix_len is_other t) (sym same) (blanks_before blanks rest h) in
    omega (arith, before, length-drop at text, prefix_len-le-length is_other (drop at text))

-- Where the first tab of a text's margin is: after its comment-only lines and some blanks.
record TabIn (text : Text) : Type 0 where
  comments : Text
  blanks : Text
  rest : Text
  same : text ≡ comments ++ (blanks ++ (9 ∷ rest))
  are_lines : (comments ≡ []) ⊎ (ends_with nat_eq comments (codes "\n") ≡ true)
  are_comments : list_all is_comment_only (lines comments) ≡ true
  are_blanks : list_all is_blank blanks ≡ true

no_tab : (one other : Text) → [] ≡ one ++ (9 ∷ other) → ⊥
no_tab [] other e = cc
no_tab (b ∷ one) other e = cc

tab_in : (text : Text) → has_tab (margin_of text) ≡ true → (found : TabIn text) × (length found.comments ≡ (margin_of text).at)
unfolding margin_of
tab_in text tab = made (split_tab (take (blanks_len front.rest) front.rest) (subst (λ (t : Text). list_any (nat_eq 9) (take (blanks_len t) t) ≡ true) left tab) (all_blank front.rest))
  where
    front : Passed text (lines text)
    front = passed text (lines text) refl

    left : drop (lines_sum (comment_lines text)) text ≡ front.rest
    left = ap (λ n. drop n text) (sym front.len) ∙ ap (drop (length front.front)) front.whole ∙ drop-append_seam front.front front.rest

    made : (one other : Text) × (take (blanks_len front.rest) front.rest ≡ one ++ (9 ∷ other)) × (list_all is_blank one ≡ true) → (found : TabIn text) × (length found.comments ≡ lines_sum (comment_lines text))
    made split = (
      record {
        comments = front.front;
        blanks = split.0;
        rest = split.1 ++ drop (blanks_len front.rest) front.rest;
        same = front.whole ∙ ap (λ (t : Text). front.front ++ t) (sym (take-append-drop (blanks_len front.rest) front.rest) ∙ ap (λ (t : Text). t ++ drop (blanks_len front.rest) front.rest) split.2 ∙ append_assoc split.0 (9 ∷ split.1) (drop (blanks_len front.rest) front.rest));
        are_lines = ended front.ended;
        are_comments = front.alone;
        are_blanks = split.3;
      },
      front.len,
    )
      where
        ended : (front.rest ≡ []) ⊎ (has_whole_lines front.front ≡ true) → (front.front ≡ []) ⊎ (ends_with nat_eq front.front (codes "\n") ≡ true)
        ended (inl none) = absurd (no_tab split.0 split.1 (sym (ap (λ (t : Text). take (blanks_len t) t) none) ∙ split.2))
        ended (inr all) = whole_ends front.front all

-- Where lexing begins again after a tab

abbrev AfterTab : Text → Spanned Fault → Type 0
AfterTab text fault =
    (front rest : Text) × (drop fault.begin text ≡ front ++ (byte "\t" ∷ rest)) × LeadsToTab front × (fault.begin + length front < restart text fault)
    × ((at : ℕ) → fault.begin + length front ≤ at → at + 1 < restart text fault → IsLfAt text at → ⊥)

-- by the line end at the fault, and the line of the tab, where the reading stopped
after_tab : (text : Text) (fault : Spanned Fault) (line_end below : Text) → list_any (bytes_eq line_end) ([] ∷ codes "\n" ∷ codes "\r\n" ∷ []) ≡ true → drop fault.begin text ≡ line_end ++ below
    → (found : TabIn below) → stopped_at text fault ≡ fault.begin + (length line_end + length found.comments) → AfterTab text fault
unfolding restart
after_tab text fault line_end below is same found stopped = (
  line_end ++ (found.comments ++ found.blanks),
  found.rest,
  same ∙ ap (λ (t : Text). line_end ++ t) (found.same ∙ sym (append_assoc found.comments found.blanks (9 ∷ found.rest))) ∙ sym (append_assoc line_end (found.comments ++ found.blanks) (9 ∷ found.rest)),
  record { line_end = line_end; comments = found.comments; blanks = found.blanks; same = refl; ends_line = is; are_lines = found.are_lines; are_comments = found.are_comments; are_blanks = found.are_blanks },
  omega (arith, len, stopped, before),
  λ at later less lf. next_line_next text (stopped_at text fault) at (omega (arith, len, stopped, later)) less lf,
)
  where
    len : length (line_end ++ (found.comments ++ found.blanks)) ≡ length line_end + (length found.comments + length found.blanks)
    len = omega (arith, length-append line_end (found.comments ++ found.blanks), length-append found.comments found.blanks)

    line : drop (stopped_at text fault) text ≡ found.blanks ++ (9 ∷ found.rest)
    line =
        let whole : drop fault.begin text ≡ (line_end ++ found.comments) ++ (found.blanks ++ (9 ∷ found.rest)) = same ∙ ap (λ (t : Text). line_end ++ t) found.same ∙ sym (append_assoc line_end found.comments (found.blanks ++ (9 ∷ found.rest))) in
        let place : stopped_at text fault ≡ fault.begin + length (line_end ++ found.comments) = omega (arith, stopped, length-append line_end found.comments) in
        ap (λ n. drop n text) place ∙ drop-sum fault.begin (length (line_end ++ found.comments)) text ∙ ap (drop (length (line_end ++ found.comments))) whole ∙ drop-append_seam (line_end ++ found.comments) (found.blanks ++ (9 ∷ found.rest))

    before : stopped_at text fault + length found.blanks < next_line text (stopped_at text fault)
    before = tab_before text (stopped_at text fault) found.blanks found.rest line found.are_blanks

-- where the reading stopped by a tab in a margin, and in code
stopped_margin : (text : Text) (fault : Spanned Fault) → fault.end ≡ fault.begin → is_margin_tab text fault ≡ true
    → stopped_at text fault ≡ fault.begin + line_end_len (drop fault.begin text) + (margin_of (drop (fault.begin + line_end_len (drop fault.begin text)) text)).at
unfolding stopped_at
stopped_margin text fault empty tab = rw tab (omega (arith, empty))

stopped_code : (text : Text) (fault : Spanned Fault) → fault.end ≡ fault.begin → is_margin_tab text fault ≡ false → stopped_at text fault ≡ fault.begin
unfolding stopped_at
stopped_code text fault empty none = rw none (omega (arith, empty))

-- a text that begins with a tab, as its first
tab_here : (text : Text) → begins_with_tab text ≡ true → (found : TabIn text) × (found.comments ≡ [])
unfolding lines
tab_here [] h = cc
tab_here (b ∷ bs) h =
    (record { comments = []; blanks = []; rest = bs; same = ap (λ (n : ℕ). n ∷ bs) (sym (eqb-true 9 b h)); are_lines = inl refl; are_comments = refl; are_blanks = refl }, refl)

module _ (text : Text) (fault : Spanned Fault) (has : (outcome text).fault ≡ Some fault) (tab : is_tab fault.node ≡ true) where
  here : StopsAt nothing text fault
  here = stops_at nothing text fault (ap (λ (o : Outcome). o.fault) (outcome_after_nothing text) ∙ has)

  node : is_tab here.found.node ≡ true
  node = ap (λ (f : Spanned Fault). is_tab f.node) here.same ∙ tab

  -- the fault of a tab has no bytes
  pub tab_empty : fault.end ≡ fault.begin
  tab_empty = by (is_nothing (after_all nothing here.pieces).before) refl
    where
      by : (none : Bool) → is_nothing (after_all nothing here.pieces).before ≡ none → fault.end ≡ fault.begin
      by true none =
          let zero_len = (none_before nothing text here.pieces here.longest.reads none).0 in
          let fails : FirstFails text here.found = subst (λ n. FirstFails (drop n text) here.found) zero_len (tab_first (after_all nothing here.pieces) (drop (pieces_len here.pieces) text) here.found none here.longest.stands_last) in
          let margin = margin_tab 0 [] fails.0 (margin_of text) here.found node fails.1 in
          let order = here.order in
          let end = here.end in
          omega (arith, order, end, zero_len, margin.1)
      by false some =
          let later = tab_later (after_all nothing here.pieces) (drop (pieces_len here.pieces) text) here.found node some here.longest.stands_last in
          let begin = here.begin in
          let end = here.end in
          omega (arith, begin, end, later.begin, later.end)

  after_tabs : AfterTab text fault
  after_tabs = by (is_nothing (after_all nothing here.pieces).before) refl
    where
      left : Text
      left = drop (pieces_len here.pieces) text

      by : (none : Bool) → is_nothing (after_all nothing here.pieces).before ≡ none → AfterTab text fault
      by true none = after_tab text fault [] text refl (ap (λ n. drop n text) start) found.0 (stopped_margin text fault tab_empty margin ∙ omega (arith, start, len, place, found.1))
        where
          zero_len : pieces_len here.pieces ≡ 0
          zero_len = (none_before nothing text here.pieces here.longest.reads none).0

          fails : FirstFails text here.found
          fails = subst (λ n. FirstFails (drop n text) here.found) zero_len (tab_first (after_all nothing here.pieces) left here.found none here.longest.stands_last)

          has_margin : (has_tab (margin_of text) ≡ true) × (here.found.end ≡ 0)
          has_margin = margin_tab 0 [] fails.0 (margin_of text) here.found node fails.1

          found : (found : TabIn text) × (length found.comments ≡ (margin_of text).at)
          found = tab_in text has_margin.0

          start : fault.begin ≡ 0
          start = let order = here.order in let end = here.end in omega (arith, order, end, zero_len, has_margin.1)

          line : begins_with_line_end text ≡ false
          line = go (begins_with_line_end text) refl
            where
              go : (test : Bool) → begins_with_line_end text ≡ test → test ≡ false
              go true is = absurd (line_end_stands text here.found is fails)
              go false is = refl

          margin : is_margin_tab text fault ≡ true
          margin = ap (λ n. is_tab fault.node && (n == 0 || begins_with_line_end (drop n text))) start ∙ ap (λ (b : Bool). b && true) tab

          len : line_end_len (drop fault.begin text) ≡ 0
          len = ap (λ n. line_end_len (drop n text)) start ∙ no_line_end text line

          place : (margin_of (drop (fault.begin + line_end_len (drop fault.begin text)) text)).at ≡ (margin_of text).at
          place = let zero : fault.begin + line_end_len (drop fault.begin text) ≡ 0 = omega (arith, start, len) in ap (λ n. (margin_of (drop n text)).at) zero
      by false some = go later.stands
        where
          later : TabLater left here.found
          later = tab_later (after_all nothing here.pieces) left here.found node some here.longest.stands_last

          here_is : left ≡ drop fault.begin text
          here_is = let begin = here.begin in let same : pieces_len here.pieces ≡ fault.begin = omega (arith, begin, later.begin) in ap (λ n. drop n text) same

          -- a first margin of no bytes has no lines
          first : fault.begin ≡ 0 → (margin_of text).at ≡ 0
          first start = by_pieces here.pieces here.longest.reads some (let begin = here.begin in omega (arith, begin, start))
            where
              by_pieces : (pieces : List Piece) → IsReading language nothing text pieces → is_nothing (after_all nothing pieces).before ≡ false → pieces_len pieces ≡ 0 → (margin_of text).at ≡ 0
              by_pieces [] reads some none = cc
              by_pieces (piece ∷ pieces) reads some none =
                  let len = margin_step_len 0 [] [] (margin_of text) piece (sym (first_step text) ∙ reads.0) in
                  omega (arith, len, none, sum_by-cons (λ (piece : Piece). piece.len) piece pieces)

          code : begins_with_tab left ≡ true → AfterTab text fault
          code tabs = after_tab text fault [] (drop fault.begin text) refl refl found.0 (stopped (is_margin_tab text fault) refl ∙ omega (arith, ap (λ (t : Text). length t) found.1))
            where
              found : (found : TabIn (drop fault.begin text)) × (found.comments ≡ [])
              found = tab_here (drop fault.begin text) (ap begins_with_tab (sym here_is) ∙ tabs)

              line : begins_with_line_end (drop fault.begin text) ≡ false
              line = tab_no_line (drop fault.begin text) (ap begins_with_tab (sym here_is) ∙ tabs)

              stopped : (margin : Bool) → is_margin_tab text fault ≡ margin → stopped_at text fault ≡ fault.begin
              stopped false is = stopped_code text fault tab_empty is
              stopped true is =
                  let start : fault.begin ≡ 0 = eqb-true fault.begin 0 (start_of (fault.begin == 0) (begins_with_line_end (drop fault.begin text)) line (and_parts (is_tab fault.node) _ is).1) in
                  let zero : fault.begin + line_end_len (drop fault.begin text) ≡ 0 = omega (arith, start, no_line_end (drop fault.begin text) line) in
                  let place : (margin_of (drop (fault.begin + line_end_len (drop fault.begin text)) text)).at ≡ 0 = ap (λ n. (margin_of (drop n text)).at) zero ∙ first start in
                  stopped_margin text fault tab_empty is ∙ omega (arith, zero, place, start)
                where
                  start_of : (x y : Bool) → y ≡ false → (x || y) ≡ true → x ≡ true
                  start_of true y e h = refl
                  start_of false y e h = let wrong : true ≡ false = sym h ∙ e in cc

          margin : LineFails left here.found → AfterTab text fault
          margin fails = after_tab text fault (take fails.len left) below (is_line_end fails.line) (sym here_is ∙ sym (take-append-drop fails.len left)) found.0 (stopped_margin text fault tab_empty tabs ∙ omega (arith, len, size, place, found.1))
            where
              below : Text
              below = drop fails.len left

              is_line_end : BeginsLine left fails.len → list_any (bytes_eq (take fails.len left)) ([] ∷ codes "\n" ∷ codes "\r\n" ∷ []) ≡ true
              is_line_end (inl line) = rw (line.1, line.2) refl
              is_line_end (inr line) = rw (line.1, line.2) refl

              size_of : BeginsLine left fails.len → length (take fails.len left) ≡ fails.len
              size_of (inl line) = rw (line.1, line.2) refl
              size_of (inr line) = rw (line.1, line.2) refl

              begins : BeginsLine left fails.len → begins_with_line_end left ≡ true
              begins (inl line) = ap begins_with_line_end line.1
              begins (inr line) = ap begins_with_line_end line.1

              found : (found : TabIn below) × (length found.comments ≡ (margin_of below).at)
              found = tab_in below (margin_tab fails.size fails.lexemes fails.levels (margin_of below) here.found node fails.fails).0

              size : length (take fails.len left) ≡ fails.len
              size = size_of fails.line

              len : line_end_len (drop fault.begin text) ≡ fails.len
              len = ap line_end_len (sym here_is) ∙ line_is left fails.len fails.line

              tabs : is_margin_tab text fault ≡ true
              tabs = ap (λ (b : Bool). is_tab fault.node && (fault.begin == 0 || b)) (ap begins_with_line_end (sym here_is) ∙ begins fails.line) ∙ ap (λ (b : Bool). b && (fault.begin == 0 || true)) tab ∙ or_true (fault.begin == 0)
                where
                  or_true : (x : Bool) → (true && (x || true)) ≡ true
                  or_true true = refl
                  or_true false = refl

              place : (margin_of (drop (fault.begin + line_end_len (drop fault.begin text)) text)).at ≡ (margin_of below).at
              place = ap (λ (t : Text). (margin_of t).at) (drop-sum fault.begin (line_end_len (drop fault.begin text)) text ∙ ap (λ n. drop n (drop fault.begin text)) len ∙ ap (drop fails.len) (sym here_is))

          go : (begins_with_tab left ≡ true) ⊎ LineFails left here.found → AfterTab text fault
          go (inl tabs) = code tabs
          go (inr fails) = margin fails

pub restarts_after_tabs : RestartsAfterTabs
restarts_after_tabs = after_tabs
