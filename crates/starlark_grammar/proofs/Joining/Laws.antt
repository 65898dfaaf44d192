-- The laws on texts joined at clean cuts.
use Rattle.std.proofs.Common.{◌≡◌, ◌+◌, ◌-◌, ◌≤◌, ◌<◌, Bool, true, List, [], ◌∷◌, ◌++◌, length, take, drop, map, ap, ◌∙◌, sym, subst, Some, None, arith, ◌⊎◌, inl, inr, ◌↔◌, length-append}
use Rattle.std.specs.Prelude.{◌&&◌, ◌==◌, nat_eq, nat_le, codes, option_map}
use Rattle.std.specs.Cmp.Lexicographic.{pointwise}
use Rattle.std.specs.List.{ends_with}
use Rattle.std.proofs.Math.Seq.{drop-append-add}
use Rattle.std.proofs.lemmas.Bool.{and_parts, leb-true}
use Rattle.std.proofs.lemmas.List.{take-append-drop, length-take}
use Rattle.starlark_grammar.specs.Words.{Text, language}
use Rattle.starlark_grammar.specs.Tokens.{Lexeme, moved, Outcome}
use Rattle.starlark_grammar.specs.Margins.{margin_of}
use Rattle.starlark_grammar.specs.Pieces.{Piece, Step, Fails, Situation}
use Rattle.starlark_grammar.specs.Reading.{History, nothing, after_all, situation, pieces_len, read, outcome}
use Rattle.starlark_grammar.specs.Longest.{IsLongestReading}
use Rattle.starlark_grammar.specs.Cuts.{is_layout, is_settled, is_faultless, is_clean_cut, is_clean_cut_in, is_kept_cut, without_closing}
use Rattle.starlark_grammar.specs.Depths.{is_outside}
use Rattle.starlark_grammar.specs.TextLaws.{LaterFaultsJoin, FailsLater, FaultsJoin, CutsOfJoined, TabsAfterCuts, KeptCutsKeep, HasFirstMargin}
use Rattle.starlark_grammar.proofs.Reading.Readings.{one_longest, longest_onward, read_is}
use Rattle.starlark_grammar.proofs.Joining.Settled.{Settled, remainder, situation_after, map_none}
use Rattle.starlark_grammar.proofs.Joining.CleanCuts.{cut, begun, longest, past, cuts_join}
use Rattle.starlark_grammar.proofs.Joining.Tabs.{tab, HasTab, tab_of, margin_tab, first_step, first_margin_is, tab_longest, outcome_by, after_tab}

pub tabs_after_cuts : TabsAfterCuts
tabs_after_cuts first second fault h fails = (after_tab first second h (tab_of (margin_of second) fault (sym (first_step second) ∙ fails))).is

-- a text whose first margin has a tab
tab_first : (text : Text) → HasTab (margin_of text) → IsLongestReading language nothing text [] (Fails tab)
tab_first text has = tab_longest text [] tt (first_step text ∙ margin_tab 0 [] [] (margin_of text) has)

-- Faults

has_fault : (text : Text) (front : List Piece) → IsLongestReading language nothing text front (Fails tab) → (outcome text).fault ≡ None → ⊥
has_fault text front longest e =
    let some : Some (moved (pieces_len front) tab) ≡ None = sym (ap (λ (o : Outcome). o.fault) (outcome_by text front (Fails tab) longest)) ∙ e in cc

pub later_faults_join : LaterFaultsJoin
later_faults_join first second h later = cuts_join first second h (stands later (first_margin_is second))
  where
    stands : FailsLater second → HasFirstMargin language second ⊎ HasTab (margin_of second) → HasFirstMargin language second
    stands later (inl margin) = margin
    stands (inl none) (inr has) = absurd (has_fault second [] (tab_first second has) none)
    stands (inr not_first) (inr has) = absurd (not_first (tab, first_step second ∙ margin_tab 0 [] [] (margin_of second) has))

pub faults_join : FaultsJoin
faults_join first second h = go (first_margin_is second)
  where
    go : HasFirstMargin language second ⊎ HasTab (margin_of second) → ((outcome (first ++ second)).fault ≡ None) ↔ ((outcome second).fault ≡ None)
    go (inl margin) =
        let same : (outcome (first ++ second)).fault ≡ option_map (moved (length first)) (outcome second).fault = ap (λ (o : Outcome). o.fault) (cuts_join first second h margin) in
        (λ e. map_none (moved (length first)) (outcome second).fault (sym same ∙ e), λ e. same ∙ ap (option_map (moved (length first))) e)
    go (inr has) =
        let found = after_tab first second h has in
        (λ e. absurd (has_fault (first ++ second) found.front found.longest e), λ e. absurd (has_fault second [] (tab_first second has) e))

-- Clean cuts

-- whether a text is a clean cut, by its reading
pub clean_by : (text : Text) (pieces : List Piece) (last : Step) → IsLongestReading language nothing text pieces last
    → is_clean_cut text ≡ (is_faultless last && is_settled (after_all nothing pieces) && ends_with nat_eq text (codes "\n"))
unfolding is_clean_cut is_clean_cut_in
clean_by text pieces last longest =
    let same = one_longest language nothing text (read language text).pieces pieces (read language text).last last (read_is language text) longest in
    ap (λ (ps : List Piece). is_faultless (read language text).last && is_settled (after_all nothing ps) && ends_with nat_eq text (codes "\n")) same.0
    ∙ ap (λ (step : Step). is_faultless step && is_settled (after_all nothing pieces) && ends_with nat_eq text (codes "\n")) same.1

settled_after : (earlier history : History) → Settled earlier → is_settled (remainder earlier history) ≡ is_settled history
unfolding is_settled situation
settled_after earlier history h =
    ap (λ (s : Situation). is_layout s.before && is_outside s.mode && s.is_balanced && length s.levels == 0) (situation_after earlier history h)

pub ends_after : (first second : Text) → 0 < length second → ends_with nat_eq (first ++ second) (codes "\n") ≡ ends_with nat_eq second (codes "\n")
ends_after first second some =
    let at : length (first ++ second) - 1 ≡ length first + (length second - 1) = omega (arith, length-append first second) in
    ap (λ n. pointwise nat_eq (codes "\n") (drop n (first ++ second))) at ∙ ap (pointwise nat_eq (codes "\n")) (drop-append-add first second (length second - 1))

pub cuts_of_joined : CutsOfJoined
cuts_of_joined first second h some = go (first_margin_is second)
  where
    go : HasFirstMargin language second ⊎ HasTab (margin_of second) → is_clean_cut (first ++ second) ≡ is_clean_cut second
    go (inl margin) =
        let here = cut first h in
        let there = begun second margin.0 margin.1 in
        let pieces = (read language first).pieces in
        clean_by (first ++ second) _ there.last (longest first second margin.0 pieces here there margin.1)
        ∙ ap (λ (history : History). is_faultless there.last && is_settled history && ends_with nat_eq (first ++ second) (codes "\n")) (past first second margin.0 pieces here there margin.1)
        ∙ ap (λ (settled : Bool). is_faultless there.last && settled && ends_with nat_eq (first ++ second) (codes "\n")) (settled_after (after_all nothing pieces) (after_all nothing (margin.0 ∷ there.pieces)) here.is_settled)
        ∙ ap (λ (ends : Bool). is_faultless there.last && is_settled (after_all nothing (margin.0 ∷ there.pieces)) && ends) (ends_after first second some)
        ∙ sym (clean_by second (margin.0 ∷ there.pieces) there.last (longest_onward language nothing second margin.0 there.pieces there.last margin.1 there.longest))
    go (inr has) =
        let found = after_tab first second h has in
        clean_by (first ++ second) found.front (Fails tab) found.longest ∙ sym (clean_by second [] (Fails tab) (tab_first second has))

-- Kept cuts

pub kept_cuts_keep : KeptCutsKeep
unfolding is_kept_cut
kept_cuts_keep text at h = go (first_margin_is (drop at text))
  where
    whole : take at text ++ drop at text ≡ text
    whole = take-append-drop at text

    parts : (nat_le at (pieces_len (read language text).pieces) ≡ true) × (is_clean_cut (take at text) ≡ true)
    parts = and_parts (nat_le at (pieces_len (read language text).pieces)) (is_clean_cut (take at text)) h

    go : HasFirstMargin language (drop at text) ⊎ HasTab (margin_of (drop at text)) → (more : List Lexeme) × ((outcome text).lexemes ≡ without_closing (outcome (take at text)).lexemes ++ more)
    go (inl margin) = (
      map (moved (length (take at text))) (outcome (drop at text)).lexemes,
      ap (λ (t : Text). (outcome t).lexemes) (sym whole) ∙ ap (λ (o : Outcome). o.lexemes) (cuts_join (take at text) (drop at text) parts.1 margin),
    )
    go (inr has) =
        let found = after_tab (take at text) (drop at text) parts.1 has in
        let same = one_longest language nothing text (read language text).pieces found.front (read language text).last (Fails tab) (read_is language text)
        (subst (λ (t : Text). IsLongestReading language nothing t found.front (Fails tab)) whole found.longest) in
        let reach : at ≤ pieces_len (read language text).pieces = leb-true at (pieces_len (read language text).pieces) parts.0 in
        absurd (omega (arith, found.less, reach, ap pieces_len same.0, length-take at text))
