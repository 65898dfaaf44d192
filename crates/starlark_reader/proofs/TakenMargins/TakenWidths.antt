-- Widths that a content line keeps, opens and closes, and those of no open indent.
use Rattle.std.proofs.Common.{◌≡◌, ℕ, ◌+◌, ◌-◌, ◌<◌, Bool, true, false, List, [], ◌∷◌, ◌++◌, length, refl, ap, ◌∙◌, sym, subst, arith, get_or, nat_eq, nat_lt, cond, ◌||◌, ltb, append-nil, take, zero, suc, ◌≤◌, eqb, drop, map, rules}
use Rattle.std.specs.Prelude.{⊤, ◌&&◌, ◌==◌, not, count_by, filter, if◌then◌else◌}
use Rattle.std.specs.List.{list_all, list_any}
use Rattle.std.proofs.Math.Seq.{get_or-append_seam}
use Rattle.std.proofs.lemmas.Bool.{and_parts, and_right, eqb-true, ltb-true, not-true, or_right, le-ltb, lt-ltb, ltb-false, ne_eqb}
use Rattle.std.proofs.lemmas.Bool.Decides.{nat_tests}
use Rattle.std.proofs.lemmas.List.{length-append, length-drop, take-append-drop}
use Rattle.std.proofs.lemmas.List.Sums.{sum_by-cons, sum_by-append}
use Rattle.std.proofs.lemmas.List.Folds.{list_all-append, list_any-append}
use Rattle.starlark_grammar.specs.Margins.{Margin, fits, is_content, is_widest, open_widths, width_of}
use Rattle.starlark_grammar.proofs.Indentation.Widths.{newest, open-push, open_all}
use Rattle.starlark_reader.specs.Inner.MarginViews.{IsLaidOut, IsMargin, greatest_of, keeps_widths, IsLeftBy, IsLeftOut, margin_indentation}
use Rattle.starlark_reader.specs.Inner.Pending.{lexemes_after}
use Rattle.starlark_reader.specs.declared.margins.Margin.{Margin as Measured}
use Rattle.starlark_reader.specs.declared.pending.AfterComments.{AfterComments}
use Rattle.starlark_reader.proofs.TakenMargins.Indents.{dedented, one_indented, some_dedented}
use Rattle.starlark_reader.proofs.TakenMargins.LaidMargins.{decided_blank, decided_fits, decided_misfit}
use Rattle.std.proofs.lemmas.List.Elements.{filter-append}
use Rattle.starlark_grammar.specs.Tokens.{moved}
use Rattle.starlark_reader.specs.declared.pending.AfterComments.TheVariants as remainder

-- 1 if a test passes, and else 0
abbrev bit : Bool → ℕ
bit b = cond b 1 0

-- Some open widths, and one that is positive and greater than these.
pub record HasGreatest (levels : List ℕ) : Type 0 where
  pub less : List ℕ
  pub greatest : ℕ
  pub parts : levels ≡ less ++ greatest ∷ []
  pub are_less : list_all (λ w. nat_lt w greatest) less ≡ true
  pub positive : nat_lt 0 greatest ≡ true

-- each width is positive and less than all after it
abbrev pub Rising : List ℕ → Type 0
Rising [] = ⊤
Rising (width ∷ levels) = (nat_lt 0 width ≡ true) × (list_all (nat_lt width) levels ≡ true) × Rising levels

pub is_rising : (widths : List ℕ) → Rising (open_widths widths)
unfolding open_widths
is_rising [] = tt
is_rising (w ∷ later) = go (nat_lt 0 w) refl (list_all (nat_lt w) later) refl (is_rising later)
  where
    go : (positive : Bool) → nat_lt 0 w ≡ positive → (least : Bool) → list_all (nat_lt w) later ≡ least → Rising (open_widths later) → Rising (if positive && least then w ∷ open_widths later else open_widths later)
    go true e true f more = (e, open_all (nat_lt w) later f, more)
    go positive e least f more = more

pub first_rising : (count : ℕ) (levels : List ℕ) → Rising levels → Rising (take count levels)
first_rising (suc n) (w ∷ levels) rising = (rising.0, first_all n levels rising.1, first_rising n levels rising.2)
  where
    first_all : (n : ℕ) (ls : List ℕ) → list_all (nat_lt w) ls ≡ true → list_all (nat_lt w) (take n ls) ≡ true
    first_all zero ls h = refl
    first_all (suc n) [] h = refl
    first_all (suc n) (l ∷ ls) h = let two = and_parts (nat_lt w l) (list_all (nat_lt w) ls) h in rw two.0 (first_all n ls two.1)
first_rising count levels rising = tt

abbrev pub Rises : List ℕ → Type 0
Rises [] = ⊤
Rises (width ∷ levels) = HasGreatest (width ∷ levels)

pub rises : (levels : List ℕ) → Rising levels → Rises levels
rises [] rising = tt
rises (w ∷ []) rising = record { less = []; greatest = w; parts = refl; are_less = refl; positive = rising.0 }
rises (w ∷ l ∷ levels) rising =
    let more = rises (l ∷ levels) rising.2 in
    let two = and_parts (list_all (nat_lt w) more.less) (nat_lt w more.greatest && true) (sym (list_all-append (nat_lt w) more.less (more.greatest ∷ [])) ∙ (sym (ap (list_all (nat_lt w)) more.parts) ∙ rising.1)) in
    record { less = w ∷ more.less; greatest = more.greatest; parts = ap (λ ws. w ∷ ws) more.parts; are_less = rw ((and_parts (nat_lt w more.greatest) true two.1).0) more.are_less; positive = more.positive }

-- The greatest of the widths

module _ (levels : List ℕ) (has : HasGreatest levels) where
  pub is_greatest : greatest_of levels ≡ has.greatest
  is_greatest =
      let last : length levels - 1 ≡ length has.less = omega (arith, ap (λ (ws : List ℕ). length ws) has.parts ∙ length-append has.less (has.greatest ∷ [])) in
      ap (λ n. get_or levels n 0) last ∙ ap (λ ws. get_or ws (length has.less) 0) has.parts ∙ get_or-append_seam has.less has.greatest [] 0

  same_test : ltb has.greatest has.greatest ≡ false
  same_test = grind (arith, nat_tests)

  equal_test : nat_eq has.greatest has.greatest ≡ true
  equal_test = grind (arith, nat_tests)

  is_open : list_any (nat_eq has.greatest) levels ≡ true
  is_open = ap (list_any (nat_eq has.greatest)) has.parts ∙ list_any-append (nat_eq has.greatest) has.less (has.greatest ∷ []) ∙ rw equal_test (or_right (list_any (nat_eq has.greatest) has.less) true refl)

  not_widest : is_widest has.greatest levels ≡ false
  not_widest = ap (is_widest has.greatest) has.parts ∙ list_all-append (λ w. nat_lt w has.greatest) has.less (has.greatest ∷ []) ∙ rw same_test (and_right (list_all (λ w. nat_lt w has.greatest) has.less) (false && true) refl)

  none_greater : count_by (nat_lt has.greatest) levels ≡ 0
  none_greater = ap (count_by (nat_lt has.greatest)) has.parts ∙ go has.less has.are_less
    where
      go : (ws : List ℕ) → list_all (λ w. nat_lt w has.greatest) ws ≡ true → count_by (nat_lt has.greatest) (ws ++ has.greatest ∷ []) ≡ 0
      go [] h = rw same_test refl
      go (w ∷ ws) h =
          let two = and_parts (nat_lt w has.greatest) (list_all (λ w. nat_lt w has.greatest) ws) h in
          omega (arith, ap bit (not_less w (ltb-true w has.greatest two.0)), sum_by-cons (λ v. cond (nat_lt has.greatest v) 1 0) w (ws ++ has.greatest ∷ []), go ws two.1)
        where
          not_less : (w : ℕ) → w < has.greatest → ltb has.greatest w ≡ false
          not_less w h = grind (arith, nat_tests)

  kept : filter (λ w. nat_lt w has.greatest) levels ++ newest has.greatest ≡ levels
  kept = ap (λ ws. filter (λ w. nat_lt w has.greatest) ws ++ newest has.greatest) has.parts ∙ rw has.positive (ap (λ ws. ws ++ has.greatest ∷ []) (go has.less has.are_less)) ∙ sym has.parts
    where
      go : (ws : List ℕ) → list_all (λ w. nat_lt w has.greatest) ws ≡ true → filter (λ w. nat_lt w has.greatest) (ws ++ has.greatest ∷ []) ≡ ws
      go [] h = rw same_test refl
      go (w ∷ ws) h =
          let two = and_parts (nat_lt w has.greatest) (list_all (λ w. nat_lt w has.greatest) ws) h in
          rw two.0 (ap (λ more. w ∷ more) (go ws two.1))

-- the width fits the open ones, and neither opens nor closes an indent
pub record LeavesWidths (levels : List ℕ) (width : ℕ) : Type 0 where
  pub fitting : fits width levels ≡ true
  pub is_no_indent : (nat_lt 0 width && is_widest width levels) ≡ false
  pub no_dedents : count_by (nat_lt width) levels ≡ 0
  pub pushed : filter (λ w. nat_lt w width) levels ++ newest width ≡ levels

pub leaves_all : (levels : List ℕ) → Rises levels → LeavesWidths levels (greatest_of levels)
unfolding fits
leaves_all [] rises = record { fitting = refl; is_no_indent = refl; no_dedents = refl; pushed = refl }
leaves_all (width ∷ more) has =
    subst (LeavesWidths (width ∷ more)) (sym (is_greatest (width ∷ more) has)) (record {
      fitting = any_of_three (has.greatest == 0) (is_widest has.greatest (width ∷ more)) (is_open (width ∷ more) has);
      is_no_indent = rw (not_widest (width ∷ more) has) (and_right (nat_lt 0 has.greatest) false refl);
      no_dedents = none_greater (width ∷ more) has;
      pushed = kept (width ∷ more) has;
    })
  where
    any_of_three : (a c : Bool) {b : Bool} → b ≡ true → (a || b || c) ≡ true
    any_of_three true c h = refl
    any_of_three false c h = rw h refl

-- the greatest open width neither opens nor closes an indent
pub greatest_leaves : (widths : List ℕ) → LeavesWidths (open_widths widths) (greatest_of (open_widths widths))
greatest_leaves widths = leaves_all (open_widths widths) (rises (open_widths widths) (is_rising widths))

-- a margin that keeps the open widths is taken, and has no lexeme after its comments
module _ (levels widths : List ℕ) (margin : Measured) (seen : Margin) (same : IsMargin seen margin) (open_now : levels ≡ open_widths widths) (keeps : keeps_widths margin levels ≡ true) where
  leaves : margin.is_content ≡ true → (margin.has_tab ≡ false) × LeavesWidths levels margin.width
  leaves some =
      let two = and_parts (not margin.has_tab) (margin.width == greatest_of levels) (rw some at keeps) in
      let is_width : margin.width ≡ greatest_of levels = eqb-true margin.width (greatest_of levels) two.1 in
      (not-true margin.has_tab two.0, subst (LeavesWidths levels) (sym is_width) (subst (λ ls. LeavesWidths ls (greatest_of ls)) (sym open_now) (greatest_leaves widths)))

  pub is_kept : (begin : ℕ) (remainder : AfterComments) → lexemes_after remainder ≡ [] → IsLaidOut begin seen widths levels levels remainder
  is_kept begin remainder idle = go margin.is_content refl
    where
      go : (content : Bool) → margin.is_content ≡ content → IsLaidOut begin seen widths levels levels remainder
      go false none =
          let blank : is_content seen.remainder ≡ false = sym same.is_content ∙ none in
          record {
            stands = λ len before. decided_blank len before levels seen margin same none;
            those_after = idle ∙ rw blank refl;
            open_now = open_now ∙ ap open_widths (rw blank (sym (append-nil widths)));
          }
      go true some =
          let content : is_content seen.remainder ≡ true = sym same.is_content ∙ some in
          let fits = leaves some in
          let dedents : count_by (nat_lt (width_of seen)) levels ≡ 0 = rw same.blanks.width at fits.1.no_dedents in
          let pushed : filter (λ w. nat_lt w (width_of seen)) levels ++ newest (width_of seen) ≡ levels = rw same.blanks.width at fits.1.pushed in
          record {
            stands = λ len before. decided_fits len before levels seen margin same some fits.0 fits.1.fitting;
            those_after = idle ∙ rw (content, dedented levels seen (rw same.blanks.width at fits.1.is_no_indent), dedents) refl;
            open_now = sym pushed ∙ ap (λ ls. filter (λ w. nat_lt w (width_of seen)) ls ++ newest (width_of seen)) open_now ∙ sym (open-push widths (width_of seen)) ∙ rw content refl;
          }

-- Widths that are all less, and that are all greater

module _ (width : ℕ) where
  abbrev all_less : List ℕ → Type 0
  all_less levels = is_widest width levels ≡ true

  abbrev all_greater : List ℕ → Type 0
  all_greater levels = list_all (nat_lt width) levels ≡ true

  less_kept : (levels : List ℕ) → all_less levels → filter (λ w. nat_lt w width) levels ≡ levels
  less_kept [] h = refl
  less_kept (w ∷ ws) h = let two = and_parts (nat_lt w width) (is_widest width ws) h in rw two.0 (ap (λ more. w ∷ more) (less_kept ws two.1))

  less_unequal : (levels : List ℕ) → all_less levels → list_any (nat_eq width) levels ≡ false
  less_unequal [] h = refl
  less_unequal (w ∷ ws) h =
      let two = and_parts (nat_lt w width) (is_widest width ws) h in
      rw (ne_eqb width w (λ e. absurd (omega (arith, e, ltb-true w width two.0)))) (less_unequal ws two.1)

  greater_dropped : (levels : List ℕ) → all_greater levels → filter (λ w. nat_lt w width) levels ≡ []
  greater_dropped [] h = refl
  greater_dropped (w ∷ ws) h =
      let two = and_parts (nat_lt width w) (list_all (nat_lt width) ws) h in
      rw (le-ltb w width (omega (arith, ltb-true width w two.0))) (greater_dropped ws two.1)

  greater_unequal : (levels : List ℕ) → all_greater levels → list_any (nat_eq width) levels ≡ false
  greater_unequal [] h = refl
  greater_unequal (w ∷ ws) h =
      let two = and_parts (nat_lt width w) (list_all (nat_lt width) ws) h in
      rw (ne_eqb width w (λ e. absurd (omega (arith, e, ltb-true width w two.0)))) (greater_unequal ws two.1)

  greater_counted : (levels : List ℕ) → all_greater levels → count_by (nat_lt width) levels ≡ length levels
  greater_counted [] h = refl
  greater_counted (w ∷ ws) h =
      let two = and_parts (nat_lt width w) (list_all (nat_lt width) ws) h in
      omega (arith, ap bit two.0, sum_by-cons (λ v. cond (nat_lt width v) 1 0) w ws, greater_counted ws two.1)

  -- all are less than a width that is greater than the greatest one
  below : (levels : List ℕ) → Rises levels → greatest_of levels < width → all_less levels
  below [] has h = refl
  below (l ∷ ls) has h =
      let less : has.greatest < width = subst (λ n. n < width) (is_greatest (l ∷ ls) has) h in
      ap (is_widest width) has.parts ∙ list_all-append (λ w. nat_lt w width) has.less (has.greatest ∷ []) ∙ rw (go less has.less has.are_less, lt-ltb has.greatest width less) refl
    where
      go : {greatest : ℕ} → greatest < width → (ws : List ℕ) → list_all (λ w. nat_lt w greatest) ws ≡ true → list_all (λ w. nat_lt w width) ws ≡ true
      go h [] all = refl
      go {greatest} h (w ∷ ws) all =
          let two = and_parts (nat_lt w greatest) (list_all (λ w. nat_lt w greatest) ws) all in
          rw (lt-ltb w width (omega (arith, ltb-true w greatest two.0, h))) (go h ws two.1)

-- a width that is greater than all open ones opens an indent
pub record OpensWidth (levels : List ℕ) (width : ℕ) : Type 0 where
  pub fitting : fits width levels ≡ true
  pub is_indent : (nat_lt 0 width && is_widest width levels) ≡ true
  pub pushed : filter (λ w. nat_lt w width) levels ++ newest width ≡ levels ++ width ∷ []

pub opens_width : (widths : List ℕ) (width : ℕ) → greatest_of (open_widths widths) < width → OpensWidth (open_widths widths) width
unfolding fits
opens_width widths width h =
    let positive : nat_lt 0 width ≡ true = lt-ltb 0 width (omega (arith, h)) in
    let less = below width (open_widths widths) (rises (open_widths widths) (is_rising widths)) h in
    record {
      fitting = rw less (or_true (width == 0) (list_any (nat_eq width) (open_widths widths)));
      is_indent = rw (positive, less) refl;
      pushed = rw (less_kept width (open_widths widths) less, positive) refl;
    }
  where
    or_true : (a b : Bool) → (a || b || true) ≡ true
    or_true true b = refl
    or_true false true = refl
    or_true false false = refl

-- a width that is the greatest of the first `count` open ones closes an indent for each of the
-- others
pub record ClosesWidths (levels : List ℕ) (width count : ℕ) : Type 0 where
  pub fitting : fits width levels ≡ true
  pub is_no_indent : (nat_lt 0 width && is_widest width levels) ≡ false
  pub dedents : length levels - count ≡ count_by (nat_lt width) levels
  pub pushed : filter (λ w. nat_lt w width) levels ++ newest width ≡ take count levels

-- open widths in two parts: the width keeps those in `low`, and is less than all in `high`
module _ (low high : List ℕ) (width : ℕ) (leaves : LeavesWidths low width) (greater : list_all (nat_lt width) high ≡ true) where
  parts_indent : (nat_lt 0 width && is_widest width (low ++ high)) ≡ false
  parts_indent = rw (list_all-append (λ w. nat_lt w width) low high) (go (nat_lt 0 width) (is_widest width low) (is_widest width high) leaves.is_no_indent)
    where
      go : (p a b : Bool) → (p && a) ≡ false → (p && (a && b)) ≡ false
      go true true b h = cc
      go p a b h = refl

  parts_fit : fits width (low ++ high) ≡ true
  unfolding fits
  parts_fit = rw (list_any-append (nat_eq width) low high) (go (width == 0) refl (list_any (nat_eq width) low) (list_any (nat_eq width) high) (is_widest width low) (nat_lt 0 width) refl (is_widest width (low ++ high)) leaves.fitting leaves.is_no_indent)
    where
      go : (none : Bool) → width == 0 ≡ none → (any more widest positive : Bool) → nat_lt 0 width ≡ positive → (w : Bool) → (none || any || widest) ≡ true → (positive && widest) ≡ false → (none || (any || more) || w) ≡ true
      go false e false more false positive f w h g = cc
      go false e false more true true f w h g = cc
      go false e false more true false f w h g = absurd (zero_differs width (omega (arith, ltb-false 0 width f)) e)
        where
          zero_differs : (n : ℕ) → n ≡ 0 → n == 0 ≡ false → ⊥
          zero_differs n e f = let g = subst (λ m. eqb m 0 ≡ false) e f in cc
      go none e any more widest positive f w h g = refl

  parts_dedents : count_by (nat_lt width) (low ++ high) ≡ length high
  parts_dedents = omega (arith, sum_by-append (λ v. cond (nat_lt width v) 1 0) low high, leaves.no_dedents, greater_counted width high greater)

  parts_pushed : filter (λ w. nat_lt w width) (low ++ high) ++ newest width ≡ low
  parts_pushed =
      ap (λ ls. ls ++ newest width) (filter-append (λ w. nat_lt w width) low high ∙ ap (λ ls. filter (λ w. nat_lt w width) low ++ ls) (greater_dropped width high greater) ∙ append-nil (filter (λ w. nat_lt w width) low))
      ∙ leaves.pushed

pub closes_widths : (widths : List ℕ) (width count : ℕ) → IsLeftBy (open_widths widths) width count → greatest_of (take count (open_widths widths)) ≡ width → ClosesWidths (open_widths widths) width count
closes_widths widths width count left is =
    let levels = open_widths widths in
    let low = take count levels in
    let high = drop count levels in
    let whole : low ++ high ≡ levels = take-append-drop count levels in
    let leaves : LeavesWidths low width = subst (LeavesWidths low) is (leaves_all low (rises low (first_rising count levels (is_rising widths)))) in
    record {
      fitting = ap (fits width) (sym whole) ∙ parts_fit low high width leaves left.closed;
      is_no_indent = ap (λ ls. nat_lt 0 width && is_widest width ls) (sym whole) ∙ parts_indent low high width leaves left.closed;
      dedents = sym (length-drop count levels) ∙ sym (ap (count_by (nat_lt width)) (sym whole) ∙ parts_dedents low high width leaves left.closed);
      pushed = ap (λ ls. filter (λ w. nat_lt w width) ls ++ newest width) (sym whole) ∙ parts_pushed low high width leaves left.closed;
    }

-- a width that isn't open, and isn't greater than all open ones, doesn't fit
pub misfits : (widths : List ℕ) (width count : ℕ) → IsLeftBy (open_widths widths) width count → width ≤ greatest_of (open_widths widths) → (greatest_of (take count (open_widths widths)) ≡ width → ⊥) → fits width (open_widths widths) ≡ false
unfolding fits
misfits widths width count left few other =
    let levels = open_widths widths in
    let low = take count levels in
    let whole : low ++ drop count levels ≡ levels = take-append-drop count levels in
    let less : greatest_of low < width = omega (arith, left.last, other) in
    ap (fits width) (sym whole) ∙ go low (below width low (rises low (first_rising count levels (is_rising widths))) less) less (drop count levels) left.closed (subst (λ ls. width ≤ greatest_of ls) (sym whole) few)
  where
    go : (low : List ℕ) → is_widest width low ≡ true → greatest_of low < width → (high : List ℕ) → list_all (nat_lt width) high ≡ true → width ≤ greatest_of (low ++ high) → fits width (low ++ high) ≡ false
    go low less few [] greater least = absurd (omega (arith, few, subst (λ ls. width ≤ greatest_of ls) (append-nil low) least))
    go low less few (h ∷ high) greater least =
        let positive : eqb width 0 ≡ false = ne_eqb width 0 (λ e. absurd (omega (arith, e, few))) in
        let last : ltb h width ≡ false = le-ltb h width (omega (arith, ltb-true width h (and_parts (nat_lt width h) (list_all (nat_lt width) high) greater).0)) in
        rw (positive, list_any-append (nat_eq width) low (h ∷ high), less_unequal width low less, greater_unequal width (h ∷ high) greater, list_all-append (λ w. nat_lt w width) low (h ∷ high), less, last) refl

-- Margins before content, without a tab

module _ (begin : ℕ) (widths levels : List ℕ) (margin : Measured) (seen : Margin) (open_now : levels ≡ open_widths widths) (same : IsMargin seen margin) (some : margin.is_content ≡ true) (untabbed : margin.has_tab ≡ false) where
  laid_out : (new : List ℕ) (remainder : AfterComments) → fits margin.width levels ≡ true → lexemes_after remainder ≡ map (moved begin) (margin_indentation levels seen) → filter (λ w. nat_lt w margin.width) levels ++ newest margin.width ≡ new → IsLaidOut begin seen widths levels new remainder
  laid_out new remainder fitting gives pushed =
      let pushed_seen : filter (λ w. nat_lt w (width_of seen)) levels ++ newest (width_of seen) ≡ new = rw same.blanks.width at pushed in
      record {
        stands = λ len before. decided_fits len before levels seen margin same some untabbed fitting;
        those_after = gives;
        open_now = sym pushed_seen ∙ ap (λ ls. filter (λ w. nat_lt w (width_of seen)) ls ++ newest (width_of seen)) open_now ∙ sym (open-push widths (width_of seen)) ∙ rw (sym same.is_content ∙ some) refl;
      }

  pub is_opened : greatest_of levels < margin.width → IsLaidOut begin seen widths levels (levels ++ margin.width ∷ []) (remainder.Indent (begin + margin.at) (begin + margin.at + margin.blanks))
  is_opened h =
      let opens = subst (λ ls. OpensWidth ls margin.width) (sym open_now) (opens_width widths margin.width (subst (λ ls. greatest_of ls < margin.width) open_now h)) in
      laid_out _ _ opens.fitting (one_indented begin levels margin seen same some opens.is_indent) opens.pushed

  pub is_closed : (count : ℕ) → IsLeftBy levels margin.width count → greatest_of (take count levels) ≡ margin.width → IsLaidOut begin seen widths levels (take count levels) (remainder.Dedents (begin + margin.at) (length levels - count))
  is_closed count left is =
      let closes = subst (λ ls. ClosesWidths ls margin.width count) (sym open_now)
      (closes_widths widths margin.width count (subst (λ ls. IsLeftBy ls margin.width count) open_now left) (subst (λ ls. greatest_of (take count ls) ≡ margin.width) open_now is)) in
      laid_out _ _ closes.fitting (some_dedented begin (length levels - count) levels margin seen same some closes.is_no_indent closes.dedents) closes.pushed

  pub is_misfit : (count : ℕ) (remainder : AfterComments) → IsLeftBy levels margin.width count → margin.width ≤ greatest_of levels → (greatest_of (take count levels) ≡ margin.width → ⊥) → IsLeftOut seen levels levels remainder remainder
  is_misfit count remainder left few other = search (rules, misfits, decided_misfit)
