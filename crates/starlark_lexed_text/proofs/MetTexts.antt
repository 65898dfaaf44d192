-- What a text comes to that meets a known text at a kept cut, and the part that meets it in the known text's lists.
use Rattle.std.proofs.Common.{◌≡◌, ℕ, zero, suc, ◌+◌, ◌-◌, ◌<◌, ◌≤◌, Bool, true, false, List, [], ◌∷◌, ◌++◌, map, take, drop, length, refl, ap, sym, subst, ◌∙◌, arith, length-append, None, Some, ◌⊎◌, inl, inr, ◌^◌, Ok, Err}
use Rattle.std.specs.Prelude.{◌==◌, ◌||◌, IfSome, Option, slice_get, OnErr, OnOk, Result, ◌&&◌, nat_lt}
use Rattle.std.specs.List.{AllByRecursion}
use Rattle.std.proofs.Math.Seq.{drop-append_seam, take-append-add, take-append_seam}
use Rattle.std.proofs.lemmas.Bool.{cases_lt, eq-eqb, eqb-true, or_right}
use Rattle.std.proofs.lemmas.List.{drop-map, length-drop, length-map, length-take-le, map-append, take-append-drop}
use Rattle.starlark_grammar.specs.Words.{Text, language}
use Rattle.starlark_grammar.specs.Tokens.{Lexeme, Outcome, Spanned, moved}
use Rattle.starlark_grammar.specs.Reading.{outcome}
use Rattle.starlark_grammar.specs.Cuts.{is_clean_cut, is_kept_cut, without_closing}
use Rattle.starlark_grammar.specs.TextLaws.{HasFirstMargin}
use Rattle.starlark_grammar.proofs.Joining.Laws.{cuts_of_joined, faults_join, kept_cuts_keep}
use Rattle.starlark_grammar.proofs.Joining.LineCuts.{kept_by, kept_parts}
use Rattle.starlark_reader.specs.Inner.MarginCuts.{IsCutBefore, lexemes_before}
use Rattle.starlark_reader.proofs.TakenPieces.LeftOutcomes.{margin_first}
use Rattle.starlark_reader.proofs.TakenPieces.Taken.{no_tab}
use Rattle.starlark_lexemes.specs.Inner.RawItems.{IsRawIn}
use Rattle.starlark_lexed_text.specs.Inner.LexedTexts.{AreCuts, IsCutOf, IsMet, IsReadPart, IsReadPartTo, IsRising, PartView, cuts_at, holds_cut, met_part, moved_cut, moved_lexeme, AllAfter, AllNear, AllNearCuts, IsPutIn, later}
use Rattle.starlark_lexemes.specs.Inner.LexerStates.{left_in, whole}
use Rattle.starlark_lexed_text.specs.declared.cuts.Cut.{Cut}
use Rattle.starlark_lexed_text.specs.declared.meetings.Meeting.{Meeting}
use Rattle.starlark_lexemes.specs.declared.lexer_state.LexerState.{LexerState}
use Rattle.starlark_lexed_text.proofs.Collected.{AreCutsSoFar, IsCollected, all_counted}
use Rattle.starlark_lexed_text.proofs.KeptCuts.{held_left, held_right, kept_inside, clean_faultless, count_append, no_more_before, reach_append}
use Rattle.starlark_lexed_text.proofs.JoinedLists.{begun, outcome_append, shown_later}
use Rattle.starlark_lexed_text.proofs.Elements.{all_append, all_drop, all_map, one_is, all_front, all_of_two, all_weaker}
use Rattle.starlark_lexed_text.proofs.RelexedOutcomes.{cut_later, rising_append, cuts_near, begin_few, cut_few}
use Rattle.starlark_token.specs.Lexemes.{lexeme_view, shown_lexeme}
use Rattle.starlark_token.specs.TokenViews.{TokenView}
use Rattle.starlark_token.specs.declared.tokens.Token.{Token}
use Rattle.std.specs.Option.{is_some}
use Rattle.std.specs.Result.{is_err}
use Rattle.starlark_grammar.proofs.Order.Inside.{lexemes_few}
use Rattle.starlark_lexed_text.specs.declared.cuts.Begin.{Begin}
use Rattle.starlark_lexed_text.proofs.Within.{lexemes_near}

-- Lists

-- lists that are equal have equal fronts of one length
same_front : {A : Type 0} (one other more rest : List A) → one ++ more ≡ other ++ rest → length one ≡ length other → one ≡ other
same_front one other more rest e len = sym (take-append_seam one more) ∙ ap (λ n. take n (one ++ more)) len ∙ ap (take (length other)) e ∙ take-append_seam other rest

-- Cuts

-- in a list whose offsets rise none lies after the last
rising_end : (cuts : List Cut) (last : Cut) → IsRising (cuts ++ last ∷ []) → AllByRecursion (λ (cut : Cut). cut.at ≤ last.at) (cuts ++ last ∷ [])
rising_end [] last rising = (omega arith, tt)
rising_end (cut ∷ cuts) last rising = (before cuts rising.0, rising_end cuts last rising.1)
  where
    before : (cuts : List Cut) → AllByRecursion (λ (remainder : Cut). cut.at < remainder.at) (cuts ++ last ∷ []) → cut.at ≤ last.at
    before [] all = omega (arith, all.0)
    before (next ∷ cuts) all = before cuts all.1

-- those after one of the cuts lie beyond it
pub beyond_one : (cuts : List Cut) (index : ℕ) (cut : Cut) → IsRising cuts → slice_get cuts index ≡ Some cut → AllByRecursion (λ (remainder : Cut). cut.at < remainder.at) (drop (index + 1) cuts)
beyond_one cuts index cut rising found = let next : suc index ≡ index + 1 = omega arith in subst (λ n. AllByRecursion (λ (remainder : Cut). cut.at < remainder.at) (drop n cuts)) next (go cuts index rising found)
  where
    go : (cuts : List Cut) (index : ℕ) → IsRising cuts → slice_get cuts index ≡ Some cut → AllByRecursion (λ (remainder : Cut). cut.at < remainder.at) (drop (suc index) cuts)
    go [] index rising found = cc
    go (first ∷ cuts) zero rising found = let same : first ≡ cut = cc in subst (λ (c : Cut). AllByRecursion (λ (remainder : Cut). c.at < remainder.at) cuts) same rising.0
    go (first ∷ cuts) (suc index) rising found = go cuts index rising.1 found

rising_drop : (n : ℕ) (cuts : List Cut) → IsRising cuts → IsRising (drop n cuts)
rising_drop zero cuts rising = rising
rising_drop (suc n) [] rising = tt
rising_drop (suc n) (cut ∷ cuts) rising = rising_drop n cuts rising.1

-- a cut beyond the first is among the others, …
held_rest : (first : Cut) (cuts : List Cut) (at : ℕ) → first.at < at → holds_cut at (first ∷ cuts) ≡ true → holds_cut at cuts ≡ true
held_rest first cuts at less h = go (first.at == at) refl h
  where
    go : (here : Bool) → (first.at == at) ≡ here → (here || holds_cut at cuts) ≡ true → holds_cut at cuts ≡ true
    go true e h = absurd (omega (arith, less, eqb-true first.at at e))
    go false e h = h

-- … and beyond one of them among those after that
held_drop : (cuts : List Cut) (index : ℕ) (cut : Cut) (at : ℕ) → IsRising cuts → slice_get cuts index ≡ Some cut → cut.at < at → holds_cut at cuts ≡ true → holds_cut at (drop (index + 1) cuts) ≡ true
held_drop cuts index cut at rising found beyond h = let next : suc index ≡ index + 1 = omega arith in subst (λ n. holds_cut at (drop n cuts) ≡ true) next (go cuts index rising found h)
  where
    go : (cuts : List Cut) (index : ℕ) → IsRising cuts → slice_get cuts index ≡ Some cut → holds_cut at cuts ≡ true → holds_cut at (drop (suc index) cuts) ≡ true
    go [] index rising found h = cc
    go (first ∷ cuts) zero rising found h = let same : first ≡ cut = cc in held_rest first cuts at (omega (arith, beyond, ap (λ (c : Cut). c.at) same)) h
    go (first ∷ cuts) (suc index) rising found h =
        go cuts index rising.1 found (held_rest first cuts at (omega (arith, one_is (λ (remainder : Cut). first.at < remainder.at) cuts index cut found rising.0, beyond)) h)

held_moved : (from to : Cut) (at : ℕ) (cuts : List Cut) → holds_cut at cuts ≡ true → holds_cut (at - from.at + to.at) (map (moved_cut from to) cuts) ≡ true
held_moved from to at [] h = cc
held_moved from to at (cut ∷ cuts) h = go (cut.at == at) refl h (held_moved from to at cuts)
  where
    go : (here : Bool) → (cut.at == at) ≡ here → (here || holds_cut at cuts) ≡ true → (holds_cut at cuts ≡ true → holds_cut (at - from.at + to.at) (map (moved_cut from to) cuts) ≡ true)
        → (cut.at - from.at + to.at == at - from.at + to.at || holds_cut (at - from.at + to.at) (map (moved_cut from to) cuts)) ≡ true
    go true e h more = ap (λ b. b || holds_cut (at - from.at + to.at) (map (moved_cut from to) cuts)) (eq-eqb (cut.at - from.at + to.at) (at - from.at + to.at) (ap (λ n. n - from.at + to.at) (eqb-true cut.at at e)))
    go false e h more = ap (λ b. cut.at - from.at + to.at == at - from.at + to.at || b) (more h) ∙ or_right (cut.at - from.at + to.at == at - from.at + to.at) true refl

above_moved : (from to : Cut) (cuts : List Cut) → AllByRecursion (λ (cut : Cut). from.at < cut.at) cuts → AllByRecursion (λ (cut : Cut). to.at < cut.at) (map (moved_cut from to) cuts)
above_moved from to cuts all = all_map (λ (cut : Cut). from.at < cut.at) (λ (cut : Cut). to.at < cut.at) _ cuts (λ cut less. omega (arith, less)) all

rising_moved : (from to : Cut) (cuts : List Cut) → AllByRecursion (λ (cut : Cut). from.at < cut.at) cuts → IsRising cuts → IsRising (map (moved_cut from to) cuts)
rising_moved from to [] beyond rising = tt
rising_moved from to (cut ∷ cuts) beyond rising =
    (all_map (λ (remainder : Cut). cut.at < remainder.at) (λ (remainder : Cut). cut.at - from.at + to.at < remainder.at) _ cuts (λ remainder less. omega (arith, less, beyond.0)) rising.0, rising_moved from to cuts beyond.1 rising.1)

-- Lexemes

-- lexemes after one text, moved after another
views_moved : (from to : ℕ) (xs : List (ℕ × Token × ℕ)) (views : List (Spanned TokenView)) → map lexeme_view xs ≡ map (moved from) views → map lexeme_view (map (moved_lexeme from to) xs) ≡ map (moved to) views
views_moved from to [] [] e = refl
views_moved from to (x ∷ xs) (v ∷ vs) e =
    let first : lexeme_view x ≡ moved from v = cc in
    let begin : x.0 - from + to ≡ to + v.begin = omega (arith, ap (λ (s : Spanned TokenView). s.begin) first) in
    let end : x.2 - from + to ≡ to + v.end = omega (arith, ap (λ (s : Spanned TokenView). s.end) first) in
    let one : lexeme_view (moved_lexeme from to x) ≡ moved to v = rw (begin, end, ap (λ (s : Spanned TokenView). s.node) first) refl in
    rw (one, views_moved from to xs vs (cc)) refl
views_moved from to xs views e = cc

-- Two texts that end with the same text, after a clean cut each

module _ (one other rest : Text) (clean_one : is_clean_cut one ≡ true) (clean_other : is_clean_cut other ≡ true) (none : (outcome rest).fault ≡ None) where
  margin : HasFirstMargin language rest
  margin = begun rest none

  abbrev count_of : Text → ℕ
  count_of text = length (without_closing (outcome text).lexemes)

  -- a kept cut of the rest
  rest_cut : (at : ℕ) → is_kept_cut (one ++ rest) at ≡ true → length one < at → is_kept_cut rest (at - length one) ≡ true
  rest_cut at kept more =
      let parts = kept_parts (one ++ rest) at kept in
      let place : at ≡ length one + (at - length one) = omega (arith, more) in
      let front : take at (one ++ rest) ≡ one ++ take (at - length one) rest = ap (λ n. take n (one ++ rest)) place ∙ take-append-add one rest (at - length one) in
      let some : 0 < length (take (at - length one) rest) = omega (arith, length-take-le (at - length one) rest (omega (arith, kept_inside (one ++ rest) at kept, length-append one rest)), more) in
      kept_by rest (at - length one) (omega (arith, parts.0, reach_append one rest clean_one margin)) (sym (cuts_of_joined one (take (at - length one) rest) clean_one some) ∙ ap is_clean_cut (sym front) ∙ parts.1)

  -- and its number of lexemes
  rest_count : (at : ℕ) → is_kept_cut (one ++ rest) at ≡ true → length one < at → lexemes_before (one ++ rest) at ≡ count_of one + lexemes_before rest (at - length one)
  rest_count at kept more =
      let place : at ≡ length one + (at - length one) = omega (arith, more) in
      let front : take at (one ++ rest) ≡ one ++ take (at - length one) rest = ap (λ n. take n (one ++ rest)) place ∙ take-append-add one rest (at - length one) in
      ap count_of front ∙ count_append one (take (at - length one) rest) clean_one (clean_faultless (take (at - length one) rest) (kept_parts rest (at - length one) (rest_cut at kept more)).1)

  -- as one of the other text
  pub cut_moved : (cut : Cut) → IsCutOf (one ++ rest) cut → length one < cut.at → IsCutOf (other ++ rest) (record { at = cut.at - length one + length other; lexemes = cut.lexemes - count_of one + count_of other })
  cut_moved cut is more =
      let kept = rest_cut cut.at is.is_kept more in
      let there : IsCutOf rest (record { at = cut.at - length one; lexemes = lexemes_before rest (cut.at - length one) }) = record { inside = kept_inside rest (cut.at - length one) kept; is_kept = kept; lexemes = refl } in
      let later = cut_later other rest (record { at = cut.at - length one; lexemes = lexemes_before rest (cut.at - length one) }) clean_other margin there in
      let at : length other + (cut.at - length one) ≡ cut.at - length one + length other = omega arith in
      let count : count_of other + lexemes_before rest (cut.at - length one) ≡ cut.lexemes - count_of one + count_of other = omega (arith, is.lexemes, rest_count cut.at is.is_kept more) in
      rw (at, count) at later

  -- all lexemes after the first text, as those of the rest
  pub after_one : (ls : List (ℕ × Token × ℕ)) → map lexeme_view ls ≡ map shown_lexeme (outcome (one ++ rest)).lexemes → map lexeme_view (drop (count_of one) ls) ≡ map (moved (length one)) (map shown_lexeme (outcome rest).lexemes)
  after_one ls lexed =
      let whole : (outcome (one ++ rest)).lexemes ≡ without_closing (outcome one).lexemes ++ map (moved (length one)) (outcome rest).lexemes = ap (λ (o : Outcome). o.lexemes) (outcome_append one rest clean_one none) in
      rw (← drop-map lexeme_view (count_of one) ls, lexed, whole, drop-map shown_lexeme (count_of one), drop-append_seam, shown_later) refl

  -- and after the other text
  pub after_other : (ls found : List (ℕ × Token × ℕ)) → map lexeme_view ls ≡ map shown_lexeme (outcome (one ++ rest)).lexemes → map lexeme_view found ≡ map shown_lexeme (without_closing (outcome other).lexemes)
      → map lexeme_view (found ++ map (moved_lexeme (length one) (length other)) (drop (count_of one) ls)) ≡ map shown_lexeme (outcome (other ++ rest)).lexemes
  after_other ls found lexed front =
      let after = views_moved (length one) (length other) (drop (count_of one) ls) (map shown_lexeme (outcome rest).lexemes) (after_one ls lexed) in
      rw (map-append lexeme_view found, after, front, outcome_append other rest clean_other none) (simp (map-append, shown_later))

-- A text that has a known text's bytes after a kept cut, where that has none of its faults: its lexemes and its cuts are
-- those up to the cut, and then the known text's, moved.
pub met_whole : (text known : Text) (ls : List (ℕ × Token × ℕ)) (cuts : List Cut) (is_cut : Bool) (at index : ℕ) (cut : Cut) (part : PartView) → map lexeme_view ls ≡ map shown_lexeme (outcome known).lexemes → (outcome known).fault ≡ None
    → is_cut ≡ is_clean_cut known → AreCuts known cuts → slice_get cuts index ≡ Some cut → drop at text ≡ drop cut.at known → IsReadPartTo text at part
    → IsReadPart text (met_part cut (record { at = at; lexemes = length part.lexemes }) index ls cuts is_cut part)
met_whole text known ls cuts is_cut at index cut part lexed faultless is are found same to =
    record {
      lexemes = ap (λ n. map lexeme_view (part.lexemes ++ map (moved_lexeme n at) (drop cut.lexemes ls))) (sym one_len)
          ∙ ap (λ n. map lexeme_view (part.lexemes ++ map (moved_lexeme (length (take cut.at known)) n) (drop cut.lexemes ls))) (sym other_len)
          ∙ ap (λ n. map lexeme_view (part.lexemes ++ map (moved_lexeme (length (take cut.at known)) (length (take at text))) (drop n ls))) one_count
          ∙ after_other (take cut.at known) (take at text) (drop at text) clean_one clean_other none ls part.lexemes (lexed ∙ ap (λ (t : Text). map shown_lexeme (outcome t).lexemes) (sym before)) to.lexemes
          ∙ ap (λ (t : Text). map shown_lexeme (outcome t).lexemes) whole;
      fault = subst (λ f. IsRawIn f None) (sym text_none) tt;
      cuts = record {
        each = all_append (IsCutOf text) part.cuts _ to.each (each_moved (drop (index + 1) cuts) (all_drop (IsCutOf known) (index + 1) cuts are.each) beyond);
        order = rising_append at part.cuts _ to.order (rising_moved cut there (drop (index + 1) cuts) beyond (rising_drop (index + 1) cuts are.order)) to.up_to (above_moved cut there (drop (index + 1) cuts) beyond);
        all = all_held;
      };
      is_cut = is ∙ ap is_clean_cut (sym before) ∙ cuts_of_joined (take cut.at known) (drop at text) clean_one some ∙ sym (cuts_of_joined (take at text) (drop at text) clean_other some) ∙ ap is_clean_cut whole;
      tab = let margin = begun text text_none in sym (no_tab text margin.0 (sym (margin_first text) ∙ margin.1));
    }
  where
    there : Cut
    there = record { at = at; lexemes = length part.lexemes }

    is_one : IsCutOf known cut
    is_one = one_is (IsCutOf known) cuts index cut found are.each

    whole : take at text ++ drop at text ≡ text
    whole = take-append-drop at text

    before : take cut.at known ++ drop at text ≡ known
    before = ap (λ t. take cut.at known ++ t) same ∙ take-append-drop cut.at known

    clean_one : is_clean_cut (take cut.at known) ≡ true
    clean_one = (kept_parts known cut.at is_one.is_kept).1

    clean_other : is_clean_cut (take at text) ≡ true
    clean_other = (kept_parts text at to.is_kept).1

    one_len : length (take cut.at known) ≡ cut.at
    one_len = length-take-le cut.at known is_one.inside

    other_len : length (take at text) ≡ at
    other_len = length-take-le at text (omega (arith, to.inside))

    one_count : cut.lexemes ≡ length (without_closing (outcome (take cut.at known)).lexemes)
    one_count = is_one.lexemes

    other_count : length part.lexemes ≡ length (without_closing (outcome (take at text)).lexemes)
    other_count = sym (length-map part.lexemes lexeme_view) ∙ ap length to.lexemes ∙ length-map (without_closing (outcome (take at text)).lexemes) shown_lexeme

    some : 0 < length (drop at text)
    some = omega (arith, to.inside, length-drop at text)

    none : (outcome (drop at text)).fault ≡ None
    none = (faults_join (take cut.at known) (drop at text) clean_one).0 (ap (λ (t : Text). (outcome t).fault) before ∙ faultless)

    text_none : (outcome text).fault ≡ None
    text_none = ap (λ (t : Text). (outcome t).fault) (sym whole) ∙ (faults_join (take at text) (drop at text) clean_other).1 none

    beyond : AllByRecursion (λ (remainder : Cut). cut.at < remainder.at) (drop (index + 1) cuts)
    beyond = beyond_one cuts index cut are.order found

    -- a cut of the known text, moved
    moved_is : (one_cut : Cut) → IsCutOf known one_cut → cut.at < one_cut.at → IsCutOf text (moved_cut cut there one_cut)
    moved_is one_cut is_cut less =
        let later = cut_moved (take cut.at known) (take at text) (drop at text) clean_one clean_other none one_cut (subst (λ (t : Text). IsCutOf t one_cut) (sym before) is_cut) (omega (arith, less, one_len)) in
        let place : one_cut.at - length (take cut.at known) + length (take at text) ≡ one_cut.at - cut.at + at = omega (arith, one_len, other_len) in
        let count : one_cut.lexemes - length (without_closing (outcome (take cut.at known)).lexemes) + length (without_closing (outcome (take at text)).lexemes) ≡ one_cut.lexemes - cut.lexemes + length part.lexemes = omega (arith, one_count, other_count) in
        subst (λ (t : Text). IsCutOf t (moved_cut cut there one_cut)) whole (rw (place, count) at later)

    each_moved : (found : List Cut) → AllByRecursion (IsCutOf known) found → AllByRecursion (λ (remainder : Cut). cut.at < remainder.at) found → AllByRecursion (IsCutOf text) (map (moved_cut cut there) found)
    each_moved [] each less = tt
    each_moved (next ∷ found) each less = (moved_is next each.0 less.0, each_moved found each.1 less.1)

    -- a kept cut of the text, as one of the known text
    kept_back : (x : ℕ) → is_kept_cut text x ≡ true → at < x → is_kept_cut known (x - at + cut.at) ≡ true
    kept_back x kept more =
        let here : is_kept_cut (take at text ++ drop at text) x ≡ true = ap (λ (t : Text). is_kept_cut t x) whole ∙ kept in
        let cut_there : IsCutOf (take at text ++ drop at text) (record { at = x; lexemes = lexemes_before (take at text ++ drop at text) x }) = record { inside = kept_inside (take at text ++ drop at text) x here; is_kept = here; lexemes = refl } in
        let back = (cut_moved (take at text) (take cut.at known) (drop at text) clean_other clean_one none (record { at = x; lexemes = lexemes_before (take at text ++ drop at text) x }) cut_there (omega (arith, more, other_len))).is_kept in
        let place : x - length (take at text) + length (take cut.at known) ≡ x - at + cut.at = omega (arith, one_len, other_len) in
        ap (λ (t : Text). is_kept_cut t (x - at + cut.at)) (sym before) ∙ ap (is_kept_cut (take cut.at known ++ drop at text)) (sym place) ∙ back

    all_held : (x : ℕ) → is_kept_cut text x ≡ true → holds_cut x (part.cuts ++ map (moved_cut cut there) (drop (index + 1) cuts)) ≡ true
    all_held x kept = by (cases_lt at x)
      where
        by : (at < x) ⊎ (x ≤ at) → holds_cut x (part.cuts ++ map (moved_cut cut there) (drop (index + 1) cuts)) ≡ true
        by (inr less) = held_left x part.cuts _ (to.all x kept less)
        by (inl more) =
            let held = held_drop cuts index cut (x - at + cut.at) are.order found (omega (arith, more)) (are.all (x - at + cut.at) (kept_back x kept more)) in
            let place : x - at + cut.at - cut.at + at ≡ x = omega (arith, more) in
            held_right x part.cuts _ (ap (λ n. holds_cut n (map (moved_cut cut there) (drop (index + 1) cuts))) (sym place) ∙ held_moved cut there (x - at + cut.at) (drop (index + 1) cuts) held)

-- What was collected up to a kept cut that was just reached.
pub met_front : (text : Text) (state : LexerState) (cuts : List Cut) (at : ℕ) (part : PartView) → IsCollected text state part.lexemes → IsCutBefore text at (length (left_in (whole text) state)) → AreCutsSoFar text (length part.lexemes) part.cuts
    → part.cuts ≡ cuts ++ cuts_at (Some at) (length part.lexemes) → IsReadPartTo text at part
met_front text state cuts at part is before so last = record {
  inside = before.inside;
  is_kept = before.is_kept;
  lexemes = same_front (map lexeme_view part.lexemes) (map shown_lexeme (without_closing (outcome (take at text)).lexemes)) (left_in (whole text) state) (map shown_lexeme law.0)
      (sym is.all ∙ ap (map shown_lexeme) law.1 ∙ map-append shown_lexeme (without_closing (outcome (take at text)).lexemes) law.0)
      (omega (arith, length-map part.lexemes lexeme_view, length-map (without_closing (outcome (take at text)).lexemes) shown_lexeme, count));
  each = so.each;
  order = so.order;
  up_to = subst (AllByRecursion (λ (cut : Cut). cut.at ≤ at)) (sym last) (rising_end cuts (record { at = at; lexemes = length part.lexemes }) (subst IsRising last so.order));
  all = λ other kept less. so.all other kept (omega (arith, less, before.inside)) (omega (arith, count, no_more_before text other at less (omega (arith, before.inside)) (kept_parts text other kept).1 (kept_parts text at before.is_kept).1));
}
  where
    law : (more : List Lexeme) × ((outcome text).lexemes ≡ without_closing (outcome (take at text)).lexemes ++ more)
    law = kept_cuts_keep text at before.is_kept

    count : lexemes_before text at ≡ length part.lexemes
    count = omega (arith, before.count, all_counted text state part.lexemes is)

-- a text without cuts isn't met
pub none_met : (text known : Text) (cuts : List Cut) (met : Option Meeting) (P : Meeting → Type 0) → cuts ≡ [] → IfSome met (λ meeting. IsMet text known cuts meeting × P meeting) → met ≡ None
none_met text known cuts None P none is = refl
none_met text known cuts (Some meeting) P none is = let no : None ≡ Some meeting.cut = ap (λ (cs : List Cut). slice_get cs meeting.index) (sym none) ∙ is.0.found in cc

-- Lists

get_drop : {A : Type 0} (n i : ℕ) (xs : List A) (x : A) → slice_get (drop n xs) i ≡ Some x → slice_get xs (n + i) ≡ Some x
get_drop zero i xs x e = let same : 0 + i ≡ i = omega arith in rw same e
get_drop (suc n) i [] x e = cc
get_drop (suc n) i (y ∷ xs) x e = let same : suc n + i ≡ suc (n + i) = omega arith in rw same (get_drop n i xs x e)

after_all : (from : ℕ) (xs : List (ℕ × Token × ℕ)) (views : List (Spanned TokenView)) → map lexeme_view xs ≡ map (moved from) views → AllAfter from xs
after_all from [] views e = tt
after_all from (x ∷ xs) [] e = cc
after_all from (x ∷ xs) (v ∷ vs) e =
    let first : lexeme_view x ≡ moved from v = cc in
    ((omega (arith, ap (λ (s : Spanned TokenView). s.begin) first), omega (arith, ap (λ (s : Spanned TokenView). s.end) first)), after_all from xs vs (cc))

from_start : (len : ℕ) (xs : List (ℕ × Token × ℕ)) → map (moved_lexeme 0 len) xs ≡ map (later len) xs
from_start len [] = refl
from_start len (x ∷ xs) =
    let begin : x.0 - 0 + len ≡ len + x.0 = omega arith in
    let end : x.2 - 0 + len ≡ len + x.2 = omega arith in
    rw (begin, end, from_start len xs) refl

moved_later : (from to len : ℕ) (xs : List (ℕ × Token × ℕ)) → map (moved_lexeme from (len + to)) xs ≡ map (later len) (map (moved_lexeme from to) xs)
moved_later from to len [] = refl
moved_later from to len (x ∷ xs) =
    let begin : x.0 - from + (len + to) ≡ len + (x.0 - from + to) = omega arith in
    let end : x.2 - from + (len + to) ≡ len + (x.2 - from + to) = omega arith in
    rw (begin, end, moved_later from to len xs) refl

-- both moves are one
pub both_moved : (from to len : ℕ) (one other : List (ℕ × Token × ℕ)) → map (moved_lexeme 0 len) one ++ map (moved_lexeme from (len + to)) other ≡ map (later len) (one ++ map (moved_lexeme from to) other)
both_moved from to len one other =
    ap (λ xs. xs ++ map (moved_lexeme from (len + to)) other) (from_start len one) ∙ ap (λ xs. map (later len) one ++ xs) (moved_later from to len other) ∙ sym (map-append (later len) one (map (moved_lexeme from to) other))

module _ (known text : Text) (lexemes : List (ℕ × Token × ℕ)) (cuts : List Cut) (begin : Begin) (part : PartView) (meeting : Meeting) (r : IsPutIn known text lexemes cuts begin part meeting) where
  found : slice_get cuts (begin.cuts + meeting.index) ≡ Some meeting.cut
  found = get_drop begin.cuts meeting.index cuts meeting.cut r.met.found

  is_cut : IsCutOf known meeting.cut
  is_cut = one_is (IsCutOf known) cuts (begin.cuts + meeting.index) meeting.cut found r.are.each

  clean : is_clean_cut (take meeting.cut.at known) ≡ true
  clean = (kept_parts known meeting.cut.at is_cut.is_kept).1

  -- what the text comes to
  pub whole_is : (is : Bool) → is ≡ is_clean_cut known → IsReadPart text (met_part meeting.cut (record { at = meeting.at; lexemes = length part.lexemes }) (begin.cuts + meeting.index) lexemes cuts is part)
  whole_is is same = met_whole text known lexemes cuts is meeting.at (begin.cuts + meeting.index) meeting.cut part r.lexed r.faultless same r.are found r.met.same r.to

  -- the meeting lies after the edit
  after_begin : r.from < meeting.cut.at
  after_begin = one_is (λ (cut : Cut). r.from < cut.at) (drop begin.cuts cuts) meeting.index meeting.cut r.met.found r.begins.beyond

  pub order : begin.lexemes ≤ meeting.cut.lexemes
  order = by r.begins.stands
    where
      by : ((begin.at ≡ 0) × (begin.lexemes ≡ 0)) ⊎ IsCutOf known (record { at = begin.at; lexemes = begin.lexemes }) → begin.lexemes ≤ meeting.cut.lexemes
      by (inl start) = omega (arith, start.1)
      by (inr cut) = omega (arith, cut.lexemes, is_cut.lexemes, no_more_before known begin.at meeting.cut.at (omega (arith, r.begins.before, after_begin)) is_cut.inside (kept_parts known begin.at cut.is_kept).1 clean)

  pub inside : meeting.cut.lexemes ≤ length lexemes
  inside = cut_few known lexemes meeting.cut r.lexed is_cut

  pub rest_near : AllNear (drop meeting.cut.lexemes lexemes)
  rest_near = all_drop (λ (x : ℕ × Token × ℕ). (x.0 < 2 ^ 32) × (x.2 < 2 ^ 32)) meeting.cut.lexemes lexemes (lexemes_near known lexemes r.lexed r.known_short)

  text_short : length text < 2 ^ 32
  text_short = omega (arith, r.short)

  pub part_near : AllNear part.lexemes
  part_near = all_front (λ (x : ℕ × Token × ℕ). (x.0 < 2 ^ 32) × (x.2 < 2 ^ 32)) part.lexemes _ (lexemes_near text _ (whole_is (is_clean_cut known) refl).lexemes text_short)

  pub rest_after : AllAfter meeting.cut.at (drop meeting.cut.lexemes lexemes)
  rest_after =
      let before : take meeting.cut.at known ++ drop meeting.at text ≡ known = ap (λ t. take meeting.cut.at known ++ t) r.met.same ∙ take-append-drop meeting.cut.at known in
      let none : (outcome (drop meeting.at text)).fault ≡ None = (faults_join (take meeting.cut.at known) (drop meeting.at text) clean).0 (ap (λ (t : Text). (outcome t).fault) before ∙ r.faultless) in
      let views = after_one (take meeting.cut.at known) (take meeting.cut.at known) (drop meeting.at text) clean clean none lexemes (r.lexed ∙ ap (λ (t : Text). map shown_lexeme (outcome t).lexemes) (sym before)) in
      after_all meeting.cut.at (drop meeting.cut.lexemes lexemes) (map shown_lexeme (outcome (drop meeting.at text)).lexemes)
      (ap (λ n. map lexeme_view (drop n lexemes)) is_cut.lexemes ∙ views ∙ ap (λ n. map (moved n) (map shown_lexeme (outcome (drop meeting.at text)).lexemes)) (length-take-le meeting.cut.at known is_cut.inside))

  pub known_near : AllNearCuts (drop (begin.cuts + meeting.index + 1) cuts)
  known_near = all_drop (λ (cut : Cut). (cut.at < 2 ^ 32) × (cut.lexemes < 2 ^ 34)) (begin.cuts + meeting.index + 1) cuts (cuts_near known cuts r.known_short r.are.each)

  pub cuts_after : AllByRecursion (λ (cut : Cut). (meeting.cut.at ≤ cut.at) × (meeting.cut.lexemes ≤ cut.lexemes)) (drop (begin.cuts + meeting.index + 1) cuts)
  cuts_after =
      all_of_two (IsCutOf known) (λ (cut : Cut). meeting.cut.at < cut.at) (λ (cut : Cut). (meeting.cut.at ≤ cut.at) × (meeting.cut.lexemes ≤ cut.lexemes)) _
      (λ cut is more. (omega (arith, more), omega (arith, is_cut.lexemes, is.lexemes, no_more_before known meeting.cut.at cut.at (omega (arith, more)) is.inside clean (kept_parts known cut.at is.is_kept).1)))
      (all_drop (IsCutOf known) (begin.cuts + meeting.index + 1) cuts r.are.each) (beyond_one cuts (begin.cuts + meeting.index) meeting.cut r.are.order found)

  pub to_fits : (meeting.at < 2 ^ 32) × (length part.lexemes < 2 ^ 34)
  to_fits =
      let count : length part.lexemes ≡ length (without_closing (outcome (take meeting.at text)).lexemes) = sym (length-map part.lexemes lexeme_view) ∙ ap length r.to.lexemes ∙ length-map (without_closing (outcome (take meeting.at text)).lexemes) shown_lexeme in
      let law = kept_cuts_keep text meeting.at r.to.is_kept in
      (omega (arith, r.to.inside, text_short), omega (arith, count, lexemes_few text text_short, ap length law.1, length-append (without_closing (outcome (take meeting.at text)).lexemes) law.0))

  pub whole_near : AllNearCuts (part.cuts ++ map (moved_cut meeting.cut (record { at = meeting.at; lexemes = length part.lexemes })) (drop (begin.cuts + meeting.index + 1) cuts))
  whole_near = cuts_near text _ text_short (whole_is (is_clean_cut known) refl).cuts.each

  pub begin_near : begin.lexemes < 2 ^ 34
  begin_near = omega (arith, begin_few known lexemes cuts r.from begin r.lexed r.begins, lexemes_few known r.known_short, ap length r.lexed, length-map lexemes lexeme_view, length-map (outcome known).lexemes shown_lexeme)

-- Where lexing may meet a known text: after its first cuts, if it has no fault

pub known_inside : (known seen : Text) (cuts given : List Cut) (count : ℕ) (has : Bool) → (has ≡ false → seen ≡ known) → (has ≡ false → given ≡ drop count cuts) → (has ≡ true → given ≡ []) → AreCuts known cuts → AllByRecursion (λ (cut : Cut). cut.at ≤ length seen) given
known_inside known seen cuts given count true same after none are = subst (AllByRecursion (λ (cut : Cut). cut.at ≤ length seen)) (sym (none refl)) tt
known_inside known seen cuts given count false same after none are =
    subst (AllByRecursion (λ (cut : Cut). cut.at ≤ length seen)) (sym (after refl)) (all_drop (λ (cut : Cut). cut.at ≤ length seen) count cuts (all_weaker (IsCutOf known) (λ (cut : Cut). cut.at ≤ length seen) cuts (λ cut is. omega (arith, is.inside, ap length (same refl))) are.each))

pub met_known : (text known seen : Text) (cuts given : List Cut) (count : ℕ) (meeting : Meeting) (has : Bool) → (has ≡ false → seen ≡ known) → (has ≡ false → given ≡ drop count cuts) → (has ≡ true → given ≡ []) → IsMet text seen given meeting → (has ≡ false) × IsMet text known (drop count cuts) meeting
met_known text known seen cuts given count meeting true same after none is = let no : None ≡ Some meeting.cut = ap (λ (cs : List Cut). slice_get cs meeting.index) (sym (none refl)) ∙ is.found in cc
met_known text known seen cuts given count meeting false same after none is = (refl, subst (λ (cs : List Cut). IsMet text known cs meeting) (after refl) (subst (λ (t : Text). IsMet text t given meeting) (same refl) is))

-- a text that has something after byte `at`
pub cut_stays_so : (is : Bool) (len at : ℕ) → 0 < len → is ≡ (is || (len == 0 && nat_lt 0 at))
cut_stays_so is len at some = go (len == 0) refl is
  where
    go : (none : Bool) → (len == 0) ≡ none → (is : Bool) → is ≡ (is || (len == 0 && nat_lt 0 at))
    go true e is = absurd (omega (arith, some, eqb-true len 0 e))
    go false e true = refl
    go false e false = sym (ap (λ (none : Bool). none && nat_lt 0 at) e)

pub not_some : {A : Type 0} (found : Option A) (has : Bool) → has ≡ is_some found → has ≡ false → found ≡ None
not_some None has is e = refl
not_some (Some x) has is e = let no : true ≡ false = sym is ∙ e in cc

-- what holds of a call that succeeded
pub succeeded : {A E : Type 0} (P : Type 0) (result : Result A E) (has : Bool) → has ≡ is_err result → has ≡ false → OnOk result P → P
succeeded P (Ok x) has is e holds = holds
succeeded P (Err x) has is e holds = let no : true ≡ false = sym is ∙ e in cc

-- what holds of one that failed
pub broken : {A E : Type 0} (P : Type 0) (result : Result A E) (has : Bool) → has ≡ is_err result → has ≡ true → OnErr result P → P
broken P (Ok x) has is e holds = let no : false ≡ true = sym is ∙ e in cc
broken P (Err x) has is e holds = holds
