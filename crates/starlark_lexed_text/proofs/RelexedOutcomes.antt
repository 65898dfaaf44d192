-- What a text comes to that is lexed from a kept cut on, as after an edit.
use Rattle.std.proofs.Common.{◌≡◌, ℕ, suc, zero, ◌+◌, ◌-◌, ◌<◌, ◌≤◌, ◌^◌, true, List, [], ◌∷◌, ◌++◌, map, take, length, ap, sym, subst, ◌∙◌, arith, length-append, inr, ◌*◌, Bool, false, drop, refl, Some, None, inl, ◌⊎◌, append-nil, rules}
use Rattle.std.specs.Prelude.{slice_get, slice_index_or, Option, ◌&&◌, ◌||◌, ◌==◌, if◌then◌else◌, nat_lt, option_map}
use Rattle.std.specs.List.{AllByRecursion}
use Rattle.std.specs.Str.{IsCharBoundary, IsUtf8}
use Rattle.std.proofs.Math.Seq.{take-append-add, take-append_seam}
use Rattle.std.proofs.lemmas.Bool.{eqb-true, and_parts, and_right, lt-ltb}
use Rattle.std.proofs.lemmas.List.{get_or-take, length-take, length-take-le, take-take, take_all, length-map, map-append, take-append-drop, take-map}
use Rattle.std.proofs.lemmas.Option.{slice_get-get_or, slice_get_cases}
use Rattle.std.proofs.lemmas.Str.{IsCharBoundary-after_ascii, IsCharBoundary-start}
use Rattle.starlark_grammar.specs.Words.{Text, language}
use Rattle.starlark_grammar.specs.Reading.{outcome, pieces_len, read, nothing}
use Rattle.starlark_grammar.specs.Cuts.{is_clean_cut, without_closing, is_kept_cut, tabbed}
use Rattle.starlark_grammar.specs.TextLaws.{HasFirstMargin}
use Rattle.starlark_grammar.proofs.Joining.CleanCuts.{cut, cuts_join}
use Rattle.starlark_grammar.proofs.Joining.Followed.{ends_line, ends_line_some}
use Rattle.starlark_grammar.proofs.Joining.Laws.{cuts_of_joined, kept_cuts_keep}
use Rattle.starlark_grammar.proofs.Joining.LineCuts.{kept_by, kept_parts}
use Rattle.starlark_grammar.proofs.Order.Inside.{lexemes_few}
use Rattle.starlark_lexed_text.specs.Inner.LexedTexts.{AllNearCuts, AreBeyond, AreCuts, IsBegin, IsCutOf, IsRising, IsUpTo, later_cut, IsReadPart, IsTakenBack, PartView, holds_cut, last_newline_of, later}
use Rattle.starlark_lexed_text.specs.declared.cuts.Cut.{Cut}
use Rattle.starlark_lexed_text.proofs.Elements.{all_at, all_append, all_map, all_of_two, all_take, all_weaker}
use Rattle.starlark_lexemes.proofs.LexerCuts.{kept_some}
use Rattle.starlark_lexed_text.proofs.KeptCuts.{held_append, clean_faultless, count_is, count_append, reach_append, held_as, held_front, held_right, kept_in}
use Rattle.starlark_grammar.specs.Tokens.{Fault, InvalidTab, Lexeme, Newline, Outcome, Spanned, moved}
use Rattle.starlark_grammar.specs.Margins.{has_tab, is_content, margin_of}
use Rattle.starlark_grammar.specs.Pieces.{Fails}
use Rattle.starlark_grammar.proofs.Joining.Joined.{unmoved}
use Rattle.starlark_grammar.proofs.Joining.Tabs.{HasTab, after_tab, first_margin_is, first_step, margin_tab, outcome_by, tab, tab_longest}
use Rattle.starlark_grammar.proofs.Reading.Readings.{one_longest, read_is}
use Rattle.starlark_token.specs.Lexemes.{lexeme_view, shown_lexeme}
use Rattle.starlark_lexed_text.specs.declared.cuts.Begin.{Begin}
use Rattle.starlark_lexed_text.specs.declared.tails.Kept.{Kept}
use Rattle.starlark_token.specs.declared.tokens.Token.{Token}
use Rattle.starlark_token.specs.TokenViews.{TokenView}
use Rattle.starlark_lexed_text.proofs.JoinedLists.{cut_joined, shown_later, viewed_later}
use Rattle.starlark_lexed_text.proofs.LastNewlines.{FoundNewline, none_shown, some_shown}
use Rattle.starlark_lexemes.proofs.LexerStates.{or_false}
use Rattle.starlark_lexed_text.proofs.ReadParts.{unmoved_fault}
use Rattle.starlark_lexed_text.specs.LexedTexts.{IsReadFrom, LexedView}
use Rattle.starlark_reader.proofs.TakenPieces.LeftOutcomes.{first_fails}

-- Cuts

-- a clean cut isn't empty
pub some_cut : (text : Text) → is_clean_cut text ≡ true → 0 < length text
some_cut text clean = ends_line_some text (cut text clean).ends

-- A kept cut of a text after a clean cut, as one of both.
pub cut_later : (first second : Text) (cut : Cut) → is_clean_cut first ≡ true → HasFirstMargin language second → IsCutOf second cut → IsCutOf (first ++ second) (later_cut (length first) (length (without_closing (outcome first).lexemes)) cut)
cut_later first second cut clean margin is =
    let parts = kept_parts second cut.at is.is_kept in
    let some : 0 < length (take cut.at second) = some_cut (take cut.at second) parts.1 in
    let front : take (length first + cut.at) (first ++ second) ≡ first ++ take cut.at second = take-append-add first second cut.at in
    record {
      inside = omega (arith, is.inside, length-append first second);
      is_kept = kept_by (first ++ second) (length first + cut.at) (omega (arith, reach_append first second clean margin, parts.0)) (ap is_clean_cut front ∙ cuts_of_joined first (take cut.at second) clean some ∙ parts.1);
      lexemes = ap (λ n. length (without_closing (outcome first).lexemes) + n) is.lexemes
          ∙ sym (ap (λ (t : Text). length (without_closing (outcome t).lexemes)) front ∙ count_append first (take cut.at second) clean (clean_faultless (take cut.at second) parts.1));
    }

pub all_later : (first second : Text) (cuts : List Cut) → is_clean_cut first ≡ true → HasFirstMargin language second → AllByRecursion (IsCutOf second) cuts → AllByRecursion (IsCutOf (first ++ second)) (map (later_cut (length first) (length (without_closing (outcome first).lexemes))) cuts)
all_later first second cuts clean margin each = all_map (IsCutOf second) (IsCutOf (first ++ second)) _ cuts (λ cut is. cut_later first second cut clean margin is) each

-- A kept cut of a text, as one of another that begins as that does, where that is read as far.
pub cut_stays : (old new : Text) (at : ℕ) (cut : Cut) → take at old ≡ take at new → at ≤ length new → cut.at ≤ at → cut.at ≤ pieces_len (read language new).pieces → IsCutOf old cut → IsCutOf new cut
cut_stays old new at cut same inside before reach is =
    let front : take cut.at old ≡ take cut.at new = sym (take-take cut.at at old before) ∙ ap (take cut.at) same ∙ take-take cut.at at new before in
    record {
      inside = omega (arith, before, inside);
      is_kept = kept_by new cut.at reach (ap is_clean_cut (sym front) ∙ (kept_parts old cut.at is.is_kept).1);
      lexemes = is.lexemes ∙ ap (λ t. length (without_closing (outcome t).lexemes)) front;
    }

pub all_stay : (old new : Text) (at reach : ℕ) (cuts : List Cut) → take at old ≡ take at new → at ≤ length new → reach ≤ at → reach ≤ pieces_len (read language new).pieces
    → AllByRecursion (IsCutOf old) cuts → AllByRecursion (λ (cut : Cut). cut.at ≤ reach) cuts → AllByRecursion (IsCutOf new) cuts
all_stay old new at reach cuts same inside before far each up =
    all_of_two (IsCutOf old) (λ (cut : Cut). cut.at ≤ reach) (IsCutOf new) cuts (λ cut is less. cut_stays old new at cut same inside (omega (arith, less, before)) (omega (arith, less, far)) is) each up

-- lists of cuts in their order
pub rising_take : (n : ℕ) (cuts : List Cut) → IsRising cuts → IsRising (take n cuts)
rising_take (suc n) (cut ∷ cuts) h = (all_take (λ (remainder : Cut). cut.at < remainder.at) n cuts h.0, rising_take n cuts h.1)
rising_take n cuts h = tt

pub rising_append : (at : ℕ) (one other : List Cut) → IsRising one → IsRising other → AllByRecursion (λ (cut : Cut). cut.at ≤ at) one → AllByRecursion (λ (cut : Cut). at < cut.at) other → IsRising (one ++ other)
rising_append at [] other h k up above = k
rising_append at (cut ∷ one) other h k up above =
    (all_append (λ (remainder : Cut). cut.at < remainder.at) one other h.0 (all_weaker (λ (remainder : Cut). at < remainder.at) (λ (remainder : Cut). cut.at < remainder.at) other (λ remainder less. omega (arith, less, up.0)) above), rising_append at one other h.1 k up.1 above)

pub rising_later : (len count : ℕ) (cuts : List Cut) → IsRising cuts → IsRising (map (later_cut len count) cuts)
rising_later len count [] h = tt
rising_later len count (cut ∷ cuts) h =
    (all_map (λ (remainder : Cut). cut.at < remainder.at) (λ (remainder : Cut). len + cut.at < remainder.at) _ cuts (λ remainder less. omega (arith, less)) h.0, rising_later len count cuts h.1)

-- cuts of the text after lie after
pub above_later : (text : Text) (len count : ℕ) (cuts : List Cut) → AllByRecursion (IsCutOf text) cuts → AllByRecursion (λ (cut : Cut). len < cut.at) (map (later_cut len count) cuts)
above_later text len count cuts each =
    all_map (IsCutOf text) (λ (cut : Cut). len < cut.at) _ cuts (λ cut is. omega (arith, some_cut (take cut.at text) (kept_parts text cut.at is.is_kept).1, length-take cut.at text)) each

-- the kept cuts of two texts joined
pub cuts_append : (first second : Text) (one other : List Cut) → is_clean_cut first ≡ true → HasFirstMargin language second → AreCuts first one → AreCuts second other
    → AreCuts (first ++ second) (one ++ map (later_cut (length first) (length (without_closing (outcome first).lexemes))) other)
cuts_append first second one other clean margin are are' = record {
  each = all_append (IsCutOf (first ++ second)) one _
      (all_stay first (first ++ second) (length first) (length first) one (take_all (length first) first (omega arith) ∙ sym (take-append_seam first second)) (omega (arith, length-append first second)) (omega arith) (omega (arith, reach_append first second clean margin)) are.each (inside one are.each))
      (all_later first second other clean margin are'.each);
  order = rising_append (length first) one _ are.order (rising_later _ _ other are'.order) (inside one are.each) (above_later second _ _ other are'.each);
  all = held_append first second one other (length (without_closing (outcome first).lexemes)) clean margin (λ x less there. are.all x (kept_by first x (omega (arith, less, (cut first clean).reach)) there)) are'.all;
}
  where
    inside : (cuts : List Cut) → AllByRecursion (IsCutOf first) cuts → AllByRecursion (λ (cut : Cut). cut.at ≤ length first) cuts
    inside cuts each = all_weaker (IsCutOf first) (λ (cut : Cut). cut.at ≤ length first) cuts (λ cut is. is.inside) each

pub cuts_near : (text : Text) (cuts : List Cut) → length text < 2 ^ 32 → AllByRecursion (IsCutOf text) cuts → AllNearCuts cuts
cuts_near text cuts short each = all_weaker (IsCutOf text) (λ (cut : Cut). (cut.at < 2 ^ 32) × (cut.lexemes < 2 ^ 34)) cuts (λ cut is. near cut is) each
  where
    near : (cut : Cut) → IsCutOf text cut → (cut.at < 2 ^ 32) × (cut.lexemes < 2 ^ 34)
    near cut is =
        (omega (arith, short, is.inside), omega (arith, is.lexemes, lexemes_few (take cut.at text) (omega (arith, length-take-le cut.at text is.inside, short, is.inside)), count_is (outcome (take cut.at text)).lexemes))

-- The place

last_feed : (text : Text) → ends_line text ≡ true → slice_index_or text (length text - 1) 0 ≡ 10
last_feed [] h = cc
last_feed (b ∷ []) h = eqb-true b 10 h
last_feed (b ∷ c ∷ bs) h = let less : length (b ∷ c ∷ bs) - 1 ≡ suc (length (c ∷ bs) - 1) = omega arith in ap (λ n. slice_index_or (b ∷ c ∷ bs) n 0) less ∙ last_feed (c ∷ bs) h

-- a clean cut ends between characters of a text that begins with it
pub cut_boundary : (text : Text) (at : ℕ) → IsUtf8 text → at ≤ length text → is_clean_cut (take at text) ≡ true → IsCharBoundary text at
cut_boundary text at utf8 inside clean =
    let len : length (take at text) ≡ at = length-take-le at text inside in
    let some : 0 < at = omega (arith, some_cut (take at text) clean, len) in
    let feed : slice_index_or text (at - 1) 0 ≡ 10 = sym (get_or-take at text (at - 1) 0 (omega (arith, some))) ∙ ap (λ n. slice_index_or (take at text) (n - 1) 0) (sym len) ∙ last_feed (take at text) (cut (take at text) clean).ends in
    let next : at - 1 + 1 ≡ at = omega (arith, some) in
    subst (IsCharBoundary text) next (IsCharBoundary-after_ascii text (at - 1) utf8 (omega (arith, some, inside)) (omega (arith, feed)))

-- Where a text is lexed again

-- up to a cut there are that one and those before it
up_to_one : (cuts : List Cut) (i : ℕ) (d : Cut) → IsRising cuts → i < length cuts → AllByRecursion (λ (cut : Cut). cut.at ≤ (slice_index_or cuts i d).at) (take (suc i) cuts)
up_to_one [] i d rising inside = absurd (omega (arith, inside))
up_to_one (cut ∷ cuts) zero d rising inside = (omega arith, tt)
up_to_one (cut ∷ cuts) (suc i) d rising inside =
    (omega (arith, all_at (λ (remainder : Cut). cut.at < remainder.at) cuts i d rising.0 (omega (arith, inside))), up_to_one cuts i d rising.1 (omega (arith, inside)))

-- so many cuts lie at or before a place where the last of them does
pub all_up_to : (cuts : List Cut) (from count : ℕ) (d : Cut) → IsRising cuts → count ≤ length cuts → IsUpTo cuts from count → AllByRecursion (λ (cut : Cut). cut.at ≤ from) (take count cuts)
all_up_to cuts from zero d rising few up_to = tt
all_up_to cuts from (suc i) d rising few up_to =
    let none : suc i - 1 ≡ i = omega arith in
    let last : (slice_index_or cuts i d).at ≤ from = up_to (omega arith) (slice_index_or cuts i d) (ap (slice_get cuts) none ∙ slice_get-get_or cuts i d (omega (arith, few))) in
    all_weaker (λ (cut : Cut). cut.at ≤ (slice_index_or cuts i d).at) (λ (cut : Cut). cut.at ≤ from) (take (suc i) cuts) (λ cut less. omega (arith, less, last)) (up_to_one cuts i d rising (omega (arith, few)))

-- the last of so many cuts is where a text may be lexed again
pub begin_found : (text : Text) (cuts : List Cut) (from count : ℕ) (d : Cut) → AreCuts text cuts → 0 < count → count ≤ length cuts → IsUpTo cuts from count → AreBeyond cuts from count
    → IsBegin text cuts from (record { at = (slice_index_or cuts (count - 1) d).at; lexemes = (slice_index_or cuts (count - 1) d).lexemes; cuts = count })
begin_found text cuts from count d are some few up_to beyond =
    let last = slice_index_or cuts (count - 1) d in
    let inside : count - 1 < length cuts = omega (arith, some, few) in
    let next : suc (count - 1) ≡ count = omega (arith, some) in
    record {
      before = up_to some last (slice_get-get_or cuts (count - 1) d inside);
      stands = inr (all_at (IsCutOf text) cuts (count - 1) d are.each inside);
      few = few;
      up_to = subst (λ n. AllByRecursion (λ (cut : Cut). cut.at ≤ last.at) (take n cuts)) next (up_to_one cuts (count - 1) d are.order inside);
      beyond = beyond;
    }

-- What is kept and what is put after it are what a text comes to.
pub record IsRelexed (edited : Text) (ls : List (ℕ × Token × ℕ)) (cuts : List Cut) (at count : ℕ) (part : PartView) (kept : Kept) : Type 0 where
  pub lexemes : map lexeme_view (take kept.lexemes ls ++ map (later at) (if kept.gives_more then part.lexemes else [])) ≡ map shown_lexeme (outcome edited).lexemes
  pub fault : (outcome edited).fault ≡ option_map (moved kept.fault_at) (outcome (drop at edited)).fault
  pub are_cuts : AreCuts edited (take kept.cuts cuts ++ map (later_cut at count) part.cuts)
  pub near : kept.fault_at ≤ at
  pub few : kept.lexemes ≤ length ls

same_cuts : (cuts : List Cut) → map (later_cut 0 0) cuts ≡ cuts
same_cuts [] = refl
same_cuts (cut ∷ cuts) =
    let at : 0 + cut.at ≡ cut.at = omega arith in
    let lexemes : 0 + cut.lexemes ≡ cut.lexemes = omega arith in
    rw (at, lexemes, same_cuts cuts) refl

abbrev begin_at : Option (Spanned Fault) → ℕ
begin_at None = 0
begin_at (Some fault) = fault.begin

-- as many lexemes stand before a cut as there are, or fewer
pub cut_few : (old : Text) (ls : List (ℕ × Token × ℕ)) (cut : Cut) → map lexeme_view ls ≡ map shown_lexeme (outcome old).lexemes → IsCutOf old cut → cut.lexemes ≤ length ls
cut_few old ls cut lexed is = search (rules, kept_cuts_keep, length-map, length-append)

-- Lexed from the text's begin on
pub relexed_start : (old edited : Text) (ls : List (ℕ × Token × ℕ)) (cuts : List Cut) (part : PartView) (count : ℕ) → AreCuts old cuts → AllByRecursion (λ (cut : Cut). cut.at ≤ 0) (take count cuts) → IsReadPart edited part
    → IsRelexed edited ls cuts 0 0 part (record { lexemes = 0; cuts = count; fault_at = 0; gives_more = true })
relexed_start old edited ls cuts part count are up_to is = record {
  lexemes = viewed_later 0 part.lexemes ∙ unmoved (map lexeme_view part.lexemes) ∙ is.lexemes;
  fault = sym (unmoved_fault (outcome edited).fault);
  are_cuts = record {
    each = all_append (IsCutOf edited) (take count cuts) _ (all_stay old edited 0 0 (take count cuts) refl (omega arith) (omega arith) (omega arith) (all_take (IsCutOf old) count cuts are.each) up_to) (subst (AllByRecursion (IsCutOf edited)) (sym (same_cuts part.cuts)) is.cuts.each);
    order = rising_append 0 (take count cuts) _ (rising_take count cuts are.order) (rising_later 0 0 part.cuts is.cuts.order) up_to (above_later edited 0 0 part.cuts is.cuts.each);
    all = λ x kept. held_right x (take count cuts) _ (subst (λ (found : List Cut). holds_cut x found ≡ true) (sym (same_cuts part.cuts)) (is.cuts.all x kept));
  };
  near = omega arith;
  few = omega arith;
}

-- Lexed from a kept cut on
module _ (old edited : Text) (ls : List (ℕ × Token × ℕ)) (cuts : List Cut) (part : PartView) (at count : ℕ) (lexed : map lexeme_view ls ≡ map shown_lexeme (outcome old).lexemes) (are : AreCuts old cuts)
    (is : IsCutOf old (record { at = at; lexemes = count })) (same : take at old ≡ take at edited) (inside : at ≤ length edited) (is_part : IsReadPart (drop at edited) part) where
  whole : take at edited ++ drop at edited ≡ edited
  whole = take-append-drop at edited

  len : length (take at edited) ≡ at
  len = length-take-le at edited inside

  clean : is_clean_cut (take at edited) ≡ true
  clean = ap is_clean_cut (sym same) ∙ (kept_parts old at is.is_kept).1

  front_count : length (without_closing (outcome (take at edited)).lexemes) ≡ count
  front_count = sym (is.lexemes ∙ ap (λ (t : Text). length (without_closing (outcome t).lexemes)) same)

  -- the lexemes that are kept
  kept_views : map lexeme_view (take count ls) ≡ map shown_lexeme (without_closing (outcome (take at edited)).lexemes)
  kept_views =
      let law = kept_cuts_keep old at is.is_kept in
      rw (← take-map lexeme_view count ls, lexed, take-map shown_lexeme count (outcome old).lexemes, law.1, is.lexemes, take-append_seam (without_closing (outcome (take at old)).lexemes) law.0, same) refl

  pub few : count ≤ length ls
  few = cut_few old ls (record { at = at; lexemes = count }) lexed is

  -- all of them, and those of what was read
  all_views : (outcome edited).lexemes ≡ without_closing (outcome (take at edited)).lexemes ++ map (moved at) (outcome (drop at edited)).lexemes
      → map lexeme_view (take count ls ++ map (later at) part.lexemes) ≡ map shown_lexeme (outcome edited).lexemes
  all_views e =
      rw (e, map-append lexeme_view (take count ls), kept_views, viewed_later at part.lexemes, is_part.lexemes) (simp (map-append, shown_later))

  -- a cut of the new text at or before the one that is read from is an old one, among the first where the others lie after it
  held_old : (x to n : ℕ) → x ≤ at → x ≤ to → AreBeyond cuts to n → is_clean_cut (take x edited) ≡ true → holds_cut x (take n cuts) ≡ true
  held_old x to n before less beyond there = held_front x to n cuts (are.all x (kept_in old edited at x same is.is_kept before there)) beyond less

  -- where the margin at the cut has no fault
  pub relexed_cut : (kept_cuts : ℕ) → AllByRecursion (λ (cut : Cut). cut.at ≤ at) (take kept_cuts cuts) → AreBeyond cuts at kept_cuts → HasFirstMargin language (drop at edited)
      → IsRelexed edited ls cuts at count part (record { lexemes = count; cuts = kept_cuts; fault_at = at; gives_more = true })
  relexed_cut kept_cuts up_to beyond margin =
      let joined = ap outcome (sym whole) ∙ cuts_join (take at edited) (drop at edited) clean margin in
      let reach : pieces_len (read language edited).pieces ≡ length (take at edited) + pieces_len (read language (drop at edited)).pieces = ap (λ (t : Text). pieces_len (read language t).pieces) (sym whole) ∙ reach_append (take at edited) (drop at edited) clean margin in
      let remainder = all_later (take at edited) (drop at edited) part.cuts clean margin is_part.cuts.each in
      record {
        lexemes = all_views (ap (λ (o : Outcome). o.lexemes) joined ∙ ap (λ n. without_closing (outcome (take at edited)).lexemes ++ map (moved n) (outcome (drop at edited)).lexemes) len);
        fault = ap (λ (o : Outcome). o.fault) joined ∙ ap (λ n. option_map (moved n) (outcome (drop at edited)).fault) len;
        are_cuts = record {
          each = all_append (IsCutOf edited) (take kept_cuts cuts) _ (all_stay old edited at at (take kept_cuts cuts) same inside (omega arith) (omega (arith, reach, len)) (all_take (IsCutOf old) kept_cuts cuts are.each) up_to)
              (subst (λ n. AllByRecursion (IsCutOf edited) (map (later_cut at n) part.cuts)) front_count
              (subst (λ n. AllByRecursion (IsCutOf edited) (map (later_cut n (length (without_closing (outcome (take at edited)).lexemes))) part.cuts)) len
              (subst (λ (t : Text). AllByRecursion (IsCutOf t) (map (later_cut (length (take at edited)) (length (without_closing (outcome (take at edited)).lexemes))) part.cuts)) whole remainder)));
          order = rising_append at (take kept_cuts cuts) _ (rising_take kept_cuts cuts are.order) (rising_later at count part.cuts is_part.cuts.order) up_to (above_later (drop at edited) at count part.cuts is_part.cuts.each);
          all = λ x kept. subst (λ n. holds_cut x (take kept_cuts cuts ++ map (later_cut n count) part.cuts) ≡ true) len
              (held_append (take at edited) (drop at edited) (take kept_cuts cuts) part.cuts count clean margin
              (λ x less there. held_old x at kept_cuts (omega (arith, less, len)) (omega (arith, less, len)) beyond (ap is_clean_cut (sym (take-take x at edited (omega (arith, less, len)))) ∙ there))
              is_part.cuts.all x (ap (λ (t : Text). is_kept_cut t x) whole ∙ kept));
        };
        near = omega arith;
        few = few;
      }

  module _ (has : HasTab (margin_of (drop at edited))) where
    fails : outcome (drop at edited) ≡ record { lexemes = (margin_of (drop at edited)).comments; fault = Some (moved 0 tab) }
    fails = first_fails (drop at edited) tab (margin_tab 0 [] [] (margin_of (drop at edited)) has)

    -- no cut lies in a text whose first margin has a fault
    none_read : (read language (drop at edited)).pieces ≡ []
    none_read = (one_longest language nothing (drop at edited) _ _ _ _ (read_is language (drop at edited)) (tab_longest (drop at edited) [] tt (first_step (drop at edited) ∙ margin_tab 0 [] [] (margin_of (drop at edited)) has))).0

    no_cuts : (found : List Cut) → AllByRecursion (IsCutOf (drop at edited)) found → found ≡ []
    no_cuts [] each = refl
    no_cuts (cut ∷ found) each =
        let parts = kept_parts (drop at edited) cut.at each.0.is_kept in
        absurd (omega (arith, parts.0, ap pieces_len none_read, some_cut (take cut.at (drop at edited)) parts.1, length-take cut.at (drop at edited)))

    tabs : outcome edited ≡ tabbed (length (take at edited)) (without_closing (outcome (take at edited)).lexemes) (margin_of (drop at edited)).comments
    tabs = ap outcome (sym whole) ∙ (after_tab (take at edited) (drop at edited) clean has).is

    -- the reading goes as far as the fault
    tab_reach : (fault : Spanned Fault) → (outcome edited).fault ≡ Some fault → pieces_len (read language edited).pieces ≡ fault.begin
    tab_reach fault found =
        let bt = after_tab (take at edited) (drop at edited) clean has in
        let reading = one_longest language nothing (take at edited ++ drop at edited) _ _ _ _ (read_is language (take at edited ++ drop at edited)) bt.longest in
        let begin = ap (λ (o : Outcome). begin_at o.fault) (sym (outcome_by (take at edited ++ drop at edited) bt.front (Fails tab) bt.longest) ∙ ap outcome whole) ∙ ap begin_at found in
        omega (arith, ap (λ (t : Text). pieces_len (read language t).pieces) (sym whole) ∙ ap pieces_len reading.0, begin)

    -- where it has a tab, after comments alone
    pub relexed_comments : last_newline_of (map lexeme_view (take count ls)) ≡ None → IsRelexed edited ls cuts at count part (record { lexemes = count; cuts = 0; fault_at = 0; gives_more = true })
    relexed_comments none =
        let before = none_shown (without_closing (outcome (take at edited)).lexemes) (ap last_newline_of (sym kept_views) ∙ none) in
        let all : outcome edited ≡ record { lexemes = without_closing (outcome (take at edited)).lexemes ++ map (moved (length (take at edited))) (margin_of (drop at edited)).comments; fault = Some (record { begin = 0; node = InvalidTab; end = 0 }) } = tabs ∙ rw before refl in
        record {
          lexemes = all_views (ap (λ (o : Outcome). o.lexemes) all ∙ ap (λ n. without_closing (outcome (take at edited)).lexemes ++ map (moved n) (margin_of (drop at edited)).comments) len
              ∙ ap (λ (o : Outcome). without_closing (outcome (take at edited)).lexemes ++ map (moved at) o.lexemes) (sym fails));
          fault = ap (λ (o : Outcome). o.fault) all ∙ ap (λ (o : Outcome). option_map (moved 0) o.fault) (sym fails);
          are_cuts = subst (λ (found : List Cut). AreCuts edited (map (later_cut at count) found)) (sym (no_cuts part.cuts is_part.cuts.each))
              (record { each = tt; order = tt; all = λ x kept. absurd (omega (arith, kept_some edited x kept, (kept_parts edited x kept).0, tab_reach (record { begin = 0; node = InvalidTab; end = 0 }) (ap (λ (o : Outcome). o.fault) all))) });
          near = omega arith;
          few = few;
        }

    -- the place of a lexeme that is kept
    same_place : (xs : List (ℕ × Token × ℕ)) (lexemes : List Lexeme) (k : ℕ) (x : ℕ × Token × ℕ) (d : Lexeme) → map lexeme_view xs ≡ map shown_lexeme lexemes → slice_get xs k ≡ Some x → x.0 ≡ (slice_index_or lexemes k d).begin
    same_place (y ∷ xs) (l ∷ lexemes) zero x d e f =
        let first : lexeme_view y ≡ shown_lexeme l = cc in
        let one : y ≡ x = cc in
        ap (λ (z : ℕ × Token × ℕ). z.0) (sym one) ∙ ap (λ (s : Spanned TokenView). s.begin) first
    same_place (y ∷ xs) (l ∷ lexemes) (suc k) x d e f = same_place xs lexemes k x d (cc) f
    same_place xs lexemes k x d e f = cc

    get_take : (n k : ℕ) (xs : List (ℕ × Token × ℕ)) → k < n → slice_get (take n xs) k ≡ slice_get xs k
    get_take zero k xs h = absurd (omega (arith, h))
    get_take (suc n) (suc k) (x ∷ xs) h = get_take n k xs (omega (arith, h))
    get_take (suc n) k [] h = refl
    get_take (suc n) zero (x ∷ xs) h = refl

    -- where it has a tab, after a `Newline`
    pub relexed_line : (last : ℕ) (kept : Kept) → last_newline_of (map lexeme_view (take count ls)) ≡ Some last → IsTakenBack ls cuts last kept → IsRelexed edited ls cuts at count part kept
    relexed_line last kept some taken =
        let lexemes = without_closing (outcome (take at edited)).lexemes in
        let found = some_shown lexemes last (ap last_newline_of (sym kept_views) ∙ some) in
        let less : last < count = omega (arith, found.inside, front_count) in
        let all : outcome edited ≡ record { lexemes = take last lexemes; fault = Some (record { begin = found.begin; node = InvalidTab; end = found.begin }) } = tabs ∙ rw found.is refl in
        let placed : kept.fault_at ≡ found.begin = place lexemes found (slice_get_cases ls last).1 less in
        let bt = after_tab (take at edited) (drop at edited) clean has in
        let reading = one_longest language nothing (take at edited ++ drop at edited) _ _ _ _ (read_is language (take at edited ++ drop at edited)) bt.longest in
        let reach : pieces_len (read language edited).pieces ≡ pieces_len bt.front = ap (λ (t : Text). pieces_len (read language t).pieces) (sym whole) ∙ ap pieces_len reading.0 in
        let here : pieces_len bt.front + 0 ≡ found.begin = ap (λ (o : Outcome). begin_at o.fault) (sym (outcome_by (take at edited ++ drop at edited) bt.front (Fails tab) bt.longest) ∙ ap outcome whole ∙ all) in
        let up_to : AllByRecursion (λ (cut : Cut). cut.at ≤ kept.fault_at) (take kept.cuts cuts) = all_up_to cuts kept.fault_at kept.cuts (record { at = 0; lexemes = 0 }) are.order taken.few taken.up_to in
        let near : kept.fault_at ≤ at = omega (arith, placed, here, bt.less, len) in
        let nil : map (later_cut at count) part.cuts ≡ [] = ap (map (later_cut at count)) (no_cuts part.cuts is_part.cuts.each) in
        record {
          lexemes = rw (taken.count, taken.gives_none) (ap (map lexeme_view) (append-nil (take last ls) ∙ sym (take-take last count ls (omega (arith, less)))) ∙ sym (take-map lexeme_view last (take count ls)) ∙ ap (take last) kept_views ∙ take-map shown_lexeme last lexemes ∙ ap (λ (o : Outcome). map shown_lexeme o.lexemes) (sym all));
          fault = ap (λ (o : Outcome). o.fault) all ∙ at_place found.begin kept.fault_at placed ∙ ap (λ (o : Outcome). option_map (moved kept.fault_at) o.fault) (sym fails);
          are_cuts = subst (λ (remainder : List Cut). AreCuts edited (take kept.cuts cuts ++ remainder)) (sym nil) (subst (AreCuts edited) (sym (append-nil (take kept.cuts cuts)))
              (record { each = all_stay old edited at kept.fault_at (take kept.cuts cuts) same inside near (omega (arith, placed, here, reach)) (all_take (IsCutOf old) kept.cuts cuts are.each) up_to; order = rising_take kept.cuts cuts are.order; all = λ x kept_x. let parts = kept_parts edited x kept_x in held_old x kept.fault_at kept.cuts (omega (arith, parts.0, reach, here, placed, near)) (omega (arith, parts.0, reach, here, placed)) taken.beyond parts.1 }));
          near = near;
          few = omega (arith, taken.count, less, few);
        }
      where
        at_place : (begin place : ℕ) → place ≡ begin → ◌≡◌ {A = Option (Spanned Fault)} (Some (record { begin = begin; node = InvalidTab; end = begin })) (Some (moved place (moved 0 tab)))
        at_place begin place e =
            let same : place + (0 + 0) ≡ begin = omega (arith, e) in
            rw same refl

        place : (lexemes : List Lexeme) (found : FoundNewline (without_closing (outcome (take at edited)).lexemes) last) → ((x : ℕ × Token × ℕ) × (last < length ls) × (slice_get ls last ≡ Some x) × (slice_index_or ls last x ≡ x)) ⊎ ((length ls ≤ last) × (slice_get ls last ≡ None)) → last < count → kept.fault_at ≡ found.begin
        place lexemes found (inl there) less =
            let d : Lexeme = record { begin = 0; node = Newline; end = 0 } in
            taken.place there.0 there.2 ∙ same_place (take count ls) (without_closing (outcome (take at edited)).lexemes) last there.0 d kept_views (get_take count last ls less ∙ there.2) ∙ found.place d
        place lexemes found (inr none) less = absurd (omega (arith, none.0, less, few))

pub begin_few : (old : Text) (ls : List (ℕ × Token × ℕ)) (cuts : List Cut) (from : ℕ) (begin : Begin) → map lexeme_view ls ≡ map shown_lexeme (outcome old).lexemes → IsBegin old cuts from begin → begin.lexemes ≤ length ls
begin_few old ls cuts from begin lexed is = elim is.stands [ inl start ↦ omega (arith, start.1) | inr cut ↦ cut_few old ls (record { at = begin.at; lexemes = begin.lexemes }) lexed cut ]

-- all cases together
pub relexed : (old edited : Text) (ls : List (ℕ × Token × ℕ)) (cuts : List Cut) (from : ℕ) (begin : Begin) (part : PartView) (kept : Kept) (has : Bool) → map lexeme_view ls ≡ map shown_lexeme (outcome old).lexemes → AreCuts old cuts → IsBegin old cuts from begin
    → take from old ≡ take from edited → from ≤ length edited → IsReadPart (drop begin.at edited) part → has ≡ (is_content (margin_of (drop begin.at edited)).remainder && has_tab (margin_of (drop begin.at edited)))
    → (has ≡ false → kept ≡ record { lexemes = begin.lexemes; cuts = begin.cuts; fault_at = begin.at; gives_more = true })
    → (has ≡ true → last_newline_of (map lexeme_view (take begin.lexemes ls)) ≡ None → kept ≡ record { lexemes = begin.lexemes; cuts = 0; fault_at = 0; gives_more = true })
    → (has ≡ true → (last : ℕ) → last_newline_of (map lexeme_view (take begin.lexemes ls)) ≡ Some last → IsTakenBack ls cuts last kept)
    → IsRelexed edited ls cuts begin.at begin.lexemes part kept
relexed old edited ls cuts from begin part kept has lexed are is same inside is_part tab_is plain comments line = by is.stands
  where
    by_start : begin.at ≡ 0 → begin.lexemes ≡ 0 → (b : Bool) → has ≡ b → IsRelexed edited ls cuts begin.at begin.lexemes part kept
    by_start e f b h =
        subst (λ n. IsRelexed edited ls cuts n begin.lexemes part kept) (sym e) (subst (λ n. IsRelexed edited ls cuts 0 n part kept) (sym f) (go b h))
      where
        part_is : IsReadPart edited part
        part_is = subst (λ n. IsReadPart (drop n edited) part) e is_part

        up : AllByRecursion (λ (cut : Cut). cut.at ≤ 0) (take begin.cuts cuts)
        up = subst (λ n. AllByRecursion (λ (cut : Cut). cut.at ≤ n) (take begin.cuts cuts)) e is.up_to

        go : (b : Bool) → has ≡ b → IsRelexed edited ls cuts 0 0 part kept
        go false h = subst (IsRelexed edited ls cuts 0 0 part) (sym (plain h ∙ rw (e, f) refl)) (relexed_start old edited ls cuts part begin.cuts are up part_is)
        go true h = subst (IsRelexed edited ls cuts 0 0 part) (sym (comments h (rw f refl) ∙ rw f refl)) (relexed_start old edited ls cuts part 0 are tt part_is)

    by_cut : IsCutOf old (record { at = begin.at; lexemes = begin.lexemes }) → IsRelexed edited ls cuts begin.at begin.lexemes part kept
    by_cut cut = go has refl
      where
        front : take begin.at old ≡ take begin.at edited
        front = sym (take-take begin.at from old is.before) ∙ ap (take begin.at) same ∙ take-take begin.at from edited is.before

        within : begin.at ≤ length edited
        within = omega (arith, is.before, inside)

        has_of : has ≡ true → HasTab (margin_of (drop begin.at edited))
        has_of h = let parts = and_parts (is_content (margin_of (drop begin.at edited)).remainder) (has_tab (margin_of (drop begin.at edited))) (sym tab_is ∙ h) in record { content = parts.0; is = parts.1 }

        margin_of_it : has ≡ false → HasFirstMargin language (drop begin.at edited) ⊎ HasTab (margin_of (drop begin.at edited)) → HasFirstMargin language (drop begin.at edited)
        margin_of_it h (inl margin) = margin
        margin_of_it h (inr tabbed) = let both : true ≡ false = sym (tab_is ∙ rw (tabbed.content, tabbed.is) refl) ∙ h in cc

        by_newline : has ≡ true → (found : Option ℕ) → last_newline_of (map lexeme_view (take begin.lexemes ls)) ≡ found → IsRelexed edited ls cuts begin.at begin.lexemes part kept
        by_newline h None e = subst (IsRelexed edited ls cuts begin.at begin.lexemes part) (sym (comments h e)) (relexed_comments old edited ls cuts part begin.at begin.lexemes lexed are cut front within is_part (has_of h) e)
        by_newline h (Some last) e = relexed_line old edited ls cuts part begin.at begin.lexemes lexed are cut front within is_part (has_of h) last kept e (line h last e)

        go : (b : Bool) → has ≡ b → IsRelexed edited ls cuts begin.at begin.lexemes part kept
        go false h = subst (IsRelexed edited ls cuts begin.at begin.lexemes part) (sym (plain h)) (relexed_cut old edited ls cuts part begin.at begin.lexemes lexed are cut front within is_part begin.cuts is.up_to (all_weaker (λ (cut : Cut). from < cut.at) (λ (cut : Cut). begin.at < cut.at) (drop begin.cuts cuts) (λ cut more. omega (arith, more, is.before)) is.beyond) (margin_of_it h (first_margin_is (drop begin.at edited))))
        go true h = by_newline h (last_newline_of (map lexeme_view (take begin.lexemes ls))) refl

    by : ((begin.at ≡ 0) × (begin.lexemes ≡ 0)) ⊎ IsCutOf old (record { at = begin.at; lexemes = begin.lexemes }) → IsRelexed edited ls cuts begin.at begin.lexemes part kept
    by (inl start) = by_start start.0 start.1 has refl
    by (inr cut) = by_cut cut

-- whether the end is a clean cut
pub end_cut_is : (edited : Text) (at : ℕ) (part : PartView) (found : Bool) → at ≤ length edited → ((at ≡ 0) ⊎ (is_clean_cut (take at edited) ≡ true)) → IsReadPart (drop at edited) part → found ≡ (part.is_cut || (length (drop at edited) == 0 && nat_lt 0 at)) → found ≡ is_clean_cut edited
end_cut_is edited at part found inside (inl start) is by = by ∙ ap (λ b. part.is_cut || (length (drop at edited) == 0 && b)) (ap (nat_lt 0) start) ∙ ap (λ b. part.is_cut || b) (and_right (length (drop at edited) == 0) false refl) ∙ or_false part.is_cut ∙ is.is_cut ∙ ap (λ n. is_clean_cut (drop n edited)) start
end_cut_is edited at part found inside (inr clean) is by =
    let some : 0 < at = omega (arith, some_cut (take at edited) clean, length-take at edited) in
    cut_joined (take at edited) (drop at edited) found clean (by ∙ ap (λ b. part.is_cut || (length (drop at edited) == 0 && b)) (lt-ltb 0 at some) ∙ ap (λ b. part.is_cut || b) (and_true (length (drop at edited) == 0)) ∙ ap (λ b. b || length (drop at edited) == 0) is.is_cut) ∙ ap is_clean_cut (take-append-drop at edited)
  where
    and_true : (b : Bool) → (b && true) ≡ b
    and_true true = refl
    and_true false = refl

pub begin_clean : (old edited : Text) (cuts : List Cut) (from : ℕ) (begin : Begin) → IsBegin old cuts from begin → take from old ≡ take from edited → (begin.at ≡ 0) ⊎ (is_clean_cut (take begin.at edited) ≡ true)
begin_clean old edited cuts from begin is same =
    let front : take begin.at old ≡ take begin.at edited = sym (take-take begin.at from old is.before) ∙ ap (take begin.at) same ∙ take-take begin.at from edited is.before in
    elim is.stands [ inl start ↦ inl start.0 | inr cut ↦ inr (ap is_clean_cut (sym front) ∙ (kept_parts old begin.at cut.is_kept).1) ]

-- and where it begins
pub begin_boundary : (old edited : Text) (cuts : List Cut) (from : ℕ) (begin : Begin) → IsBegin old cuts from begin → take from old ≡ take from edited → from ≤ length edited → IsUtf8 edited → IsCharBoundary edited begin.at
begin_boundary old edited cuts from begin is same inside utf8 =
    elim (begin_clean old edited cuts from begin is same) [
      | inl start ↦ subst (IsCharBoundary edited) (sym start) (IsCharBoundary-start edited utf8)
      | inr clean ↦ cut_boundary edited begin.at utf8 (omega (arith, is.before, inside)) clean
    ]

-- no kept cut lies between that place and the edit
begin_greatest : (old : Text) (cuts : List Cut) (from : ℕ) (begin : Begin) → AreCuts old cuts → IsBegin old cuts from begin → (other : ℕ) → other ≤ from → is_kept_cut old other ≡ true → other ≤ begin.at
begin_greatest old cuts from begin are is other less kept =
    let found = held_as (λ (cut : Cut). cut.at ≤ begin.at) other (take begin.cuts cuts) (held_front other from begin.cuts cuts (are.all other kept) is.beyond less) is.up_to in
    omega (arith, found.1, found.2)

later_begins : (len : ℕ) (xs : List (ℕ × Token × ℕ)) → AllByRecursion (λ (lexeme : Spanned TokenView). len ≤ lexeme.begin) (map lexeme_view (map (later len) xs))
later_begins len [] = tt
later_begins len (x ∷ xs) = (omega arith, later_begins len xs)

-- what was read, and which lexemes are old
pub read_from : (old : LexedView) (edited : Text) (from : ℕ) (ls given : List (ℕ × Token × ℕ)) (cuts : List Cut) (begin : Begin) (lexed : LexedView) (kept : ℕ) → old.lexemes ≡ map lexeme_view ls → AreCuts old.text cuts → IsBegin old.text cuts from begin
    → lexed.lexemes ≡ map lexeme_view (take kept ls ++ map (later begin.at) given) → lexed.reads ≤ 16 * (length edited - begin.at + 1) → (lexed.fault ≡ None → length edited - begin.at ≤ lexed.reads) → IsReadFrom old edited from lexed
read_from old edited from ls given cuts begin lexed kept seen are is made most least = record {
  at = begin.at;
  before = is.before;
  is_kept = elim is.stands [ inl start ↦ inl start.0 | inr cut ↦ inr cut.is_kept ];
  greatest = begin_greatest old.text cuts from begin are is;
  most = most;
  least = least;
  kept = kept;
  more = map lexeme_view (map (later begin.at) given);
  lexemes = made ∙ map-append lexeme_view (take kept ls) (map (later begin.at) given) ∙ ap (λ vs. vs ++ map lexeme_view (map (later begin.at) given)) (sym (take-map lexeme_view kept ls) ∙ ap (take kept) (sym seen));
  later = later_begins begin.at given;
}
