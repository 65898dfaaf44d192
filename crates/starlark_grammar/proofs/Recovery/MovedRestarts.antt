-- Where lexing begins again in a text that stands after another.
use Rattle.std.proofs.Common.{◌≡◌, ℕ, ◌+◌, ◌-◌, ◌≤◌, ◌<◌, Bool, true, false, not, List, [], ◌∷◌, ◌++◌, length, take, drop, refl, ap, ◌∙◌, subst, Some, arith, ◌⊎◌, inl, inr, length-append}
use Rattle.std.specs.Prelude.{◌&&◌, ◌||◌, ◌==◌, if◌then◌else◌, max, sum_by, take_while}
use Rattle.std.specs.List.{onto_first, prefix_len}
use Rattle.std.specs.Str.{byte}
use Rattle.std.proofs.Math.Seq.{drop-append-add}
use Rattle.std.proofs.lemmas.Bool.{both_ways, cases_lt, eqb-true}
use Rattle.starlark_grammar.specs.Words.{Text, language}
use Rattle.starlark_grammar.specs.Tokens.{Spanned, Fault, moved}
use Rattle.starlark_grammar.specs.Margins.{begins_with_line_end, blanks_len, has_tab, is_blank, is_comment_only, is_lf, lines, margin_of}
use Rattle.starlark_grammar.specs.Reading.{after_all, nothing, outcome_after, pieces_len}
use Rattle.starlark_grammar.specs.TextLaws.{HasFirstMargin}
use Rattle.starlark_grammar.proofs.Joining.Tabs.{HasTab, first_margin_is}
use Rattle.starlark_grammar.specs.Joining.{begins_plainly}
use Rattle.starlark_grammar.specs.Recovery.{is_margin_tab, is_tab, line_end_len, margin_line, next_line, restart, stopped_at}
use Rattle.starlark_grammar.proofs.Reading.Onward.{StopsAt, stops_at}
use Rattle.starlark_grammar.proofs.Recovery.MarginTabs.{FirstFails, margin_tab, LineFails, TabAt, begins_with_tab, plain_no_line, plain_no_tab, tab_next}

-- Texts that begin plainly

-- the tests of the first byte
not_any : (x y z : Bool) → not (x || y || z) ≡ true → (x ≡ false) × (y ≡ false) × (z ≡ false)
not_any true y z h = cc
not_any false true z h = cc
not_any false false true h = cc
not_any false false false h = (refl, refl, refl)

plain_blanks : (b : ℕ) (bs : Text) → is_blank b ≡ false → is_lf b ≡ false → (b == byte "#") ≡ false → (margin_of (b ∷ bs)).blanks ≡ []
unfolding margin_of lines
plain_blanks b bs blank feed comment = ap blanks (ap (take_while is_comment_only) first ∙ none (lines bs)) ∙ rw blank refl
  where
    blanks : List Text → Text
    blanks passed = take (blanks_len (drop (sum_by (λ (line : Text). length line) passed) (b ∷ bs))) (drop (sum_by (λ (line : Text). length line) passed) (b ∷ bs))

    first : lines (b ∷ bs) ≡ onto_first b (lines bs)
    first = rw feed refl

    line : (more : Text) → is_comment_only (b ∷ more) ≡ false
    line more = rw (blank, comment) refl

    none : (more : List Text) → take_while is_comment_only (onto_first b more) ≡ []
    none [] = rw (line []) refl
    none (l ∷ more) = rw (line l) refl

plain_untabbed : (text : Text) → begins_plainly text ≡ true → has_tab (margin_of text) ≡ false
unfolding begins_plainly
plain_untabbed [] plain = cc
plain_untabbed (b ∷ bs) plain =
    let tests : (is_blank b ≡ false) × (is_lf b ≡ false) × ((b == byte "#") ≡ false) = not_any (is_blank b) (is_lf b) (b == byte "#") plain in
    rw (plain_blanks b bs tests.0 tests.1 tests.2) refl

pub plain_first : (text : Text) → begins_plainly text ≡ true → HasFirstMargin language text
plain_first text plain = go (first_margin_is text)
  where
    go : HasFirstMargin language text ⊎ HasTab (margin_of text) → HasFirstMargin language text
    go (inl margin) = margin
    go (inr has) = absurd (both_ways _ (plain_untabbed text plain) has.is)

-- no tab's fault is at its start
pub plain_tab : (text : Text) (fault : Spanned Fault) → begins_plainly text ≡ true → (outcome_after nothing text).fault ≡ Some fault → is_tab fault.node ≡ true → 0 < fault.begin
plain_tab text fault plain has tab = go (stops_at nothing text fault has)
  where
    go : StopsAt nothing text fault → 0 < fault.begin
    go here = by (cases_lt 0 (pieces_len here.pieces))
      where
        begin : pieces_len here.pieces + here.found.begin ≡ fault.begin
        begin = here.begin

        node : is_tab here.found.node ≡ true
        node = ap (λ (f : Spanned Fault). is_tab f.node) here.same ∙ tab

        by : (0 < pieces_len here.pieces) ⊎ (pieces_len here.pieces ≤ 0) → 0 < fault.begin
        by (inl some) = omega (arith, some, begin)
        by (inr none) =
            let start : pieces_len here.pieces ≡ 0 = omega (arith, none) in
            let at : TabAt text here.found = subst (λ n. TabAt (drop n text) here.found) start (tab_next (after_all nothing here.pieces) (drop (pieces_len here.pieces) text) here.found node here.longest.stands_last) in
            absurd (never at.stands)
          where
            never : FirstFails text here.found ⊎ ((begins_with_tab text ≡ true) ⊎ LineFails text here.found) → ⊥
            never (inl first) = absurd (both_ways _ (plain_untabbed text plain) (margin_tab 0 [] first.0 (margin_of text) here.found node first.1).0)
            never (inr (inl tabs)) = plain_no_tab text plain tabs
            never (inr (inr fails)) = plain_no_line text fails.len plain fails.line

-- Moved faults

pub not_zero : (n : ℕ) → 0 < n → (n == 0) ≡ false
not_zero n some = go (n == 0) refl
  where
    go : (test : Bool) → (n == 0) ≡ test → test ≡ false
    go true e = absurd (omega (arith, some, eqb-true n 0 e))
    go false e = refl

abbrev is_other : ℕ → Bool
is_other b = not (is_lf b)

module _ (first second : Text) where
  next_line_moved : (at : ℕ) → next_line (first ++ second) (length first + at) ≡ length first + next_line second at
  unfolding next_line
  next_line_moved at =
      let same : prefix_len is_other (drop (length first + at) (first ++ second)) ≡ prefix_len is_other (drop at second) = ap (prefix_len is_other) (drop-append-add first second at) in
      omega (arith, same, length-append first second)

  line_moved : (at : ℕ) → margin_line (first ++ second) (length first + at) ≡ length first + margin_line second at
  line_moved at =
      let same : (margin_of (drop (length first + at) (first ++ second))).at ≡ (margin_of (drop at second)).at = ap (λ (t : Text). (margin_of t).at) (drop-append-add first second at) in
      omega (arith, same)

  module _ (fault : Spanned Fault) (later : is_tab fault.node ≡ true → 0 < fault.begin) where
    pub tab_moved : is_margin_tab (first ++ second) (moved (length first) fault) ≡ is_margin_tab second fault
    tab_moved =
        ap (λ (t : Text). is_tab fault.node && (length first + fault.begin == 0 || begins_with_line_end t)) (drop-append-add first second fault.begin)
        ∙ by (is_tab fault.node) later
      where
        by : (tab : Bool) → (tab ≡ true → 0 < fault.begin) → (tab && (length first + fault.begin == 0 || begins_with_line_end (drop fault.begin second))) ≡ (tab && (fault.begin == 0 || begins_with_line_end (drop fault.begin second)))
        by false h = refl
        by true h = let late = h refl in rw (not_zero fault.begin late, not_zero (length first + fault.begin) (omega (arith, late))) refl

    stopped_moved : stopped_at (first ++ second) (moved (length first) fault) ≡ length first + stopped_at second fault
    unfolding stopped_at
    stopped_moved =
        ap (λ tab. stop tab (margin_line (first ++ second) (length first + fault.begin + line_end_len (drop (length first + fault.begin) (first ++ second))))) tab_moved
        ∙ by (is_margin_tab second fault)
      where
        stop : Bool → ℕ → ℕ
        stop tab line = max (length first + fault.end - 1) (if tab then line else length first + fault.begin)

        len : line_end_len (drop (length first + fault.begin) (first ++ second)) ≡ line_end_len (drop fault.begin second)
        len = ap line_end_len (drop-append-add first second fault.begin)

        line : margin_line (first ++ second) (length first + fault.begin + line_end_len (drop (length first + fault.begin) (first ++ second))) ≡ length first + margin_line second (fault.begin + line_end_len (drop fault.begin second))
        line =
            let place : length first + fault.begin + line_end_len (drop (length first + fault.begin) (first ++ second)) ≡ length first + (fault.begin + line_end_len (drop fault.begin second)) = omega (arith, len) in
            ap (margin_line (first ++ second)) place ∙ line_moved (fault.begin + line_end_len (drop fault.begin second))

        by : (tab : Bool) → stop tab (margin_line (first ++ second) (length first + fault.begin + line_end_len (drop (length first + fault.begin) (first ++ second))))
            ≡ length first + max (fault.end - 1) (if tab then margin_line second (fault.begin + line_end_len (drop fault.begin second)) else fault.begin)
        by true = ap (stop true) line ∙ larger (length first) fault.end (margin_line second (fault.begin + line_end_len (drop fault.begin second)))
          where
            larger : (n end at : ℕ) → max (n + end - 1) (n + at) ≡ n + max (end - 1) at
            larger n end at = omega arith
        by false = omega arith

    -- lexing begins again where it does in the second text
    pub restart_moved : restart (first ++ second) (moved (length first) fault) ≡ length first + restart second fault
    unfolding restart
    restart_moved = ap (next_line (first ++ second)) stopped_moved ∙ next_line_moved (stopped_at second fault)
