-- The place where lexing begins again, as the code finds it, and how many bytes are read to find it.
use Rattle.std.proofs.Common.{◌≡◌, ℕ, ◌+◌, ◌-◌, ◌<◌, ◌≤◌, Bool, false, not, ◌==◌, ◌&&◌, ◌||◌, length, drop, get_or, ap, sym, ◌∙◌, arith, ◌⊎◌, inl, inr, ◌*◌, true, [], ◌∷◌, cond, refl, rules}
use Rattle.std.proofs.lemmas.Bool.{cases_lt, eqb-true, not-false}
use Rattle.std.proofs.lemmas.List.{get_or-drop, length-drop, length-take}
use Rattle.std.proofs.lemmas.List.Sums.{prefix_len_stops}
use Rattle.std.proofs.lemmas.Str.{IsCharBoundary-after_ascii}
use Rattle.std.specs.List.{prefix_len}
use Rattle.std.specs.Prelude.{if◌then◌else◌, max}
use Rattle.std.specs.Str.{IsCharBoundary, IsUtf8}
use Rattle.starlark_grammar.specs.Margins.{begins_with_line_end, is_lf, is_blank, margin_of}
use Rattle.starlark_grammar.specs.Words.{Text}
use Rattle.starlark_grammar.specs.Tokens.{Fault, Spanned}
use Rattle.starlark_grammar.specs.Recovery.{is_margin_tab, is_tab, line_end_len, margin_line, next_line, stopped_at, restart}
use Rattle.starlark_recovery.specs.Restarts.{IsPlaceOf}
use Rattle.starlark_grammar.proofs.Lists.{drop-sum}
use Rattle.starlark_reader.specs.Inner.MarginViews.{IsMargin}
use Rattle.starlark_reader.specs.declared.margins.Margin.{Margin}
use Rattle.starlark_grammar.proofs.Found.FoundItems.{stopped_past}
use Rattle.starlark_reader.proofs.TakenPieces.SearchReads.{other_search, tab_search}
use Rattle.starlark_lexemes.specs.Lexer.{search_reads}

abbrev is_other : ℕ → Bool
is_other b = not (is_lf b)

is_feed : (b : ℕ) → is_other b ≡ false → b ≡ 10
is_feed b other = eqb-true b 10 (not-false (b == 10) other)

-- the end of a text is a character boundary
end_boundary : (text : Text) → IsCharBoundary text (length text)
end_boundary text = (omega arith, λ less high. absurd (omega (arith, less)))

-- the next line begins at a character boundary
pub next_line_boundary : (text : Text) (at : ℕ) → IsUtf8 text → at ≤ length text → IsCharBoundary text (next_line text at)
unfolding next_line
next_line_boundary text at utf8 inside = by (cases_lt (prefix_len is_other (drop at text)) (length (drop at text)))
  where
    by : (prefix_len is_other (drop at text) < length (drop at text)) ⊎ (length (drop at text) ≤ prefix_len is_other (drop at text)) → IsCharBoundary text (next_line text at)
    by (inl less) =
        let len = length-drop at text in
        let feed = is_feed _ (prefix_len_stops is_other (drop at text) 0 less) in
        let same : next_line text at ≡ at + prefix_len is_other (drop at text) + 1 = omega (arith, less, len) in
        rw same (IsCharBoundary-after_ascii text (at + prefix_len is_other (drop at text)) utf8 (omega (arith, less, len)) (omega (arith, sym (get_or-drop at text (prefix_len is_other (drop at text)) 0) ∙ feed)))
    by (inr whole) =
        let same : next_line text at ≡ length text = omega (arith, whole, length-drop at text) in
        rw same (end_boundary text)

-- after a line end is a character boundary
pub after_line_end : (text rest : Text) (at n : ℕ) → IsUtf8 text → IsCharBoundary text at → rest ≡ drop at text → n ≤ length rest → (0 < n → get_or rest (n - 1) 0 ≡ 10) → IsCharBoundary text (at + n)
after_line_end text rest at n utf8 boundary is inside feed = by (cases_lt 0 n)
  where
    by : (0 < n) ⊎ (n ≤ 0) → IsCharBoundary text (at + n)
    by (inl some) =
        let byte : get_or text (at + (n - 1)) 0 ≡ 10 = sym (get_or-drop at text (n - 1) 0) ∙ sym (ap (λ t. get_or t (n - 1) 0) is) ∙ feed some in
        let same : at + n ≡ at + (n - 1) + 1 = omega (arith, some) in
        rw same (IsCharBoundary-after_ascii text (at + (n - 1)) utf8 (omega (arith, some, inside, ap length is ∙ length-drop at text, boundary.0)) (omega (arith, byte)))
    by (inr none) =
        let same : at + n ≡ at = omega (arith, none) in
        rw same boundary

-- only a tab's fault is that of a tab in a margin
pub no_margin_tab : (text : Text) (fault : Spanned Fault) → is_tab fault.node ≡ false → is_margin_tab text fault ≡ false
no_margin_tab text fault other = ap (λ b. b && (fault.begin == 0 || begins_with_line_end (drop fault.begin text))) other

-- where a reading stopped, by whether the fault is that of a tab in a margin
pub stopped_is : (text : Text) (fault : Spanned Fault) (first last : ℕ) (told tab : Bool) (line at : ℕ) → IsPlaceOf fault first last told → is_margin_tab text fault ≡ tab
    → line ≡ (if tab then margin_line text (first + line_end_len (drop first text)) else first)
    → at ≡ max line (last - 1) → at ≡ stopped_at text fault
unfolding stopped_at
stopped_is text fault first last told tab line at is test which max_is =
    let here : line ≡ (if is_margin_tab text fault then margin_line text (fault.begin + line_end_len (drop fault.begin text)) else fault.begin) =
    rw test (which ∙ ap (λ b. if tab then margin_line text (b + line_end_len (drop b text)) else b) is.begins) in
    max_is ∙ max_sym line (last - 1) ∙ ap (λ l. max (last - 1) l) here ∙ ap (λ e. max (e - 1) (if is_margin_tab text fault then margin_line text (fault.begin + line_end_len (drop fault.begin text)) else fault.begin)) is.ends
  where
    max_sym : (a b : ℕ) → max a b ≡ max b a
    max_sym a b = omega arith

-- a blank is no LF
blank_other : (b : ℕ) → is_blank b ≡ true → is_other b ≡ true
blank_other b blank = by (b == 10) refl
  where
    by : (feed : Bool) → (b == 10) ≡ feed → not (b == 10) ≡ true
    by true is = let same : b ≡ 10 = eqb-true b 10 is in absurd (never (ap is_blank (sym same) ∙ blank))
      where
        never : is_blank 10 ≡ true → ⊥
        never is = cc
    by false is = ap not is

-- blanks are on one line
blanks_in_line : (text : Text) → prefix_len is_blank text ≤ prefix_len is_other text
blanks_in_line [] = omega arith
blanks_in_line (b ∷ bs) = by (is_blank b) refl (blanks_in_line bs)
  where
    by : (blank : Bool) → is_blank b ≡ blank → prefix_len is_blank bs ≤ prefix_len is_other bs → cond blank (1 + prefix_len is_blank bs) 0 ≤ cond (is_other b) (1 + prefix_len is_other bs) 0
    by true is more = rw (blank_other b is) (omega (arith, more))
    by false is more = omega arith

-- the next line begins after the blanks of a margin's last line
pub margin_blanks : (text rest : Text) (begin : ℕ) (found : Margin) → rest ≡ drop begin text → begin + (found.at + found.blanks) ≤ length text → IsMargin (margin_of rest) found
    → begin + found.at + found.blanks ≤ next_line text (begin + found.at)
unfolding margin_of next_line
margin_blanks text rest begin found is inside margin = search (rules, drop-sum, length-take, blanks_in_line)

-- the next line doesn't begin before an offset
pub next_line_after : (text : Text) (at : ℕ) → at ≤ length text → at ≤ next_line text at
unfolding next_line
next_line_after text at inside = omega (arith, inside)

-- the reads of the search are within the bound: those that find where the reading stopped, and those of the line's rest
pub within_search : (text : Text) (fault : Spanned Fault) (begin at before between after : ℕ) (tab : Bool) → tab ≡ is_tab fault.node → begin ≡ fault.begin → at ≡ stopped_at text fault → at ≤ next_line text at
    → between ≤ before + (if tab then 4 * (at - begin) + (next_line text at - begin) + 4 else 0) → after ≤ between + (next_line text at - at + 1) → after ≤ before + search_reads text fault
unfolding restart
within_search text fault begin at before between after true tab is_begin is_at order few more =
    omega (arith, tab_search text fault (sym tab), stopped_past text fault, is_begin, is_at, ap (next_line text) is_at, order, few, more)
within_search text fault begin at before between after false other is_begin is_at order few more =
    omega (arith, other_search text fault (sym other), is_at, ap (next_line text) is_at, order, few, more)
