-- The start of the line after an offset, and where lexing begins again.
use Rattle.std.proofs.Common.{◌≡◌, ℕ, zero, suc, ◌+◌, ◌-◌, ◌<◌, ◌≤◌, ◌∙◌, ◌==◌, Bool, true, false, not, cond, Some, [], ◌∷◌, length, drop, take, refl, ap, sym, arith}
use Rattle.std.proofs.lemmas.Bool.{and_parts}
use Rattle.std.proofs.lemmas.List.{length-drop}
use Rattle.std.proofs.lemmas.List.Sums.{prefix_len-le-length}
use Rattle.std.specs.List.{list_all, prefix_len}
use Rattle.starlark_grammar.specs.AfterFaults.{is_margin_tab, line_end_len, margin_line, next_line, restart, stopped_at}
use Rattle.starlark_grammar.specs.Margins.{is_lf}
use Rattle.starlark_grammar.specs.Tokens.{Fault, Spanned}
use Rattle.starlark_grammar.specs.Words.{Text, class_in, is_in_line, language}
use Rattle.starlark_grammar.specs.declared.class.Class.TheVariants as class
use Rattle.starlark_grammar.proofs.Found.FoundItems.{stopped_past}
use Rattle.starlark_grammar.proofs.WordNewlines.{language_lines}
use Rattle.starlark_grammar.proofs.Lists.{drop-sum, take_fits}

abbrev pub in_line : ℕ → Bool
in_line b = not (is_lf b)

-- a run passes some bytes, and then the run after them
passes_later : (p : ℕ → Bool) (n : ℕ) (text : Text) → prefix_len p text ≤ n + prefix_len p (drop n text)
passes_later p (suc n) (b ∷ bs) = by (p b) (passes_later p n bs)
  where
    by : (test : Bool) → prefix_len p bs ≤ n + prefix_len p (drop n bs) → cond test (1 + prefix_len p bs) 0 ≤ suc n + prefix_len p (drop n bs)
    by true more = omega (arith, more)
    by false more = omega arith
passes_later p n text = omega arith

pub next_line_inside : (text : Text) (at : ℕ) → next_line text at ≤ length text
unfolding next_line
next_line_inside text at = omega arith

pub next_line_least : (text : Text) (at : ℕ) → at < length text → at + 1 ≤ next_line text at
unfolding next_line
next_line_least text at inside = omega (arith, inside)

pub next_line_later : (text : Text) (at more : ℕ) → at ≤ more → next_line text at ≤ next_line text more
unfolding next_line
next_line_later text at more less =
    let same : at + (more - at) ≡ more = omega (arith, less) in
    omega (arith, passes_later in_line (more - at) (drop at text), ap (prefix_len in_line) (sym (drop-sum at (more - at) text) ∙ ap (λ n. drop n text) same), less)

pub next_line_drop : (text : Text) (at n : ℕ) → at ≤ length text → next_line text (at + n) ≡ at + next_line (drop at text) n
unfolding next_line
next_line_drop text at n inside = omega (arith, ap (prefix_len in_line) (drop-sum at n text), length-drop at text, inside)

-- the line of an offset is the first of the rest from there on
pub rest_line : (text : Text) (at : ℕ) → at ≤ length text → at + next_line (drop at text) 0 ≡ next_line text at
rest_line text at inside =
    let none : at + 0 ≡ at = omega arith in
    sym (next_line_drop text at 0 inside) ∙ ap (next_line text) none

-- a text's first line has all bytes before its first LF
pub first_line : (text : Text) (n : ℕ) → n ≤ prefix_len in_line text → n ≤ next_line text 0
unfolding next_line
first_line text n few = omega (arith, few, prefix_len-le-length in_line text)

-- a front begins with no longer a run than the text
pub front_run : (p : ℕ → Bool) (n : ℕ) (text : Text) → prefix_len p (take n text) ≤ prefix_len p text
front_run p (suc n) (b ∷ bs) = by (p b) (front_run p n bs)
  where
    by : (test : Bool) → prefix_len p (take n bs) ≤ prefix_len p bs → cond test (1 + prefix_len p (take n bs)) 0 ≤ cond test (1 + prefix_len p bs) 0
    by true more = omega (arith, more)
    by false more = omega arith
front_run p n text = omega arith

-- the first line of a front is no longer than that of the text
pub front_line : (text : Text) (n : ℕ) → next_line (take n text) 0 ≤ next_line text 0
unfolding next_line
front_line text n = omega (arith, front_run in_line n text, (take_fits n text).0)

-- Words in a line

plain_byte : (b : ℕ) → is_in_line b ≡ true → in_line b ≡ true
plain_byte b plain = (and_parts (not (b == 13)) (not (b == 10)) plain).1

-- a word of tabs is a line's
pub tabs_line : (word : Text) → class_in language word ≡ Some class.Tabs → length word ≤ next_line word 0
tabs_line word known = first_line word (length word) (whole word (language_lines word class.Tabs known))
  where
    whole : (word : Text) → list_all is_in_line word ≡ true → length word ≤ prefix_len in_line word
    whole [] plain = omega arith
    whole (b ∷ bs) plain =
        let parts = and_parts (is_in_line b) (list_all is_in_line bs) plain in
        rw (plain_byte b parts.0) (omega (arith, whole bs parts.1))

-- Restarts

-- lexing begins again after the line of each offset up to where the reading stopped
pub restart_at : (text : Text) (fault : Spanned Fault) (at : ℕ) → at ≤ stopped_at text fault → next_line text at ≤ restart text fault
unfolding restart
restart_at text fault at less = next_line_later text at (stopped_at text fault) less

pub restart_inside : (text : Text) (fault : Spanned Fault) → restart text fault ≤ length text
unfolding restart
restart_inside text fault = next_line_inside text (stopped_at text fault)

pub stopped_end : (text : Text) (fault : Spanned Fault) → fault.end - 1 ≤ stopped_at text fault
unfolding stopped_at
stopped_end text fault = omega arith

pub restart_end : (text : Text) (fault : Spanned Fault) → fault.end ≤ length text → fault.end ≤ restart text fault
restart_end text fault inside = by fault.end refl
  where
    by : (end : ℕ) → fault.end ≡ end → fault.end ≤ restart text fault
    by zero e = omega (arith, e)
    by (suc end) e = omega (arith, e, next_line_least text (fault.end - 1) (omega (arith, e, inside)), restart_at text fault (fault.end - 1) (stopped_end text fault))

pub restart_line : (text : Text) (fault : Spanned Fault) → next_line text fault.begin ≤ restart text fault
restart_line text fault = restart_at text fault fault.begin (stopped_past text fault)

stopped_margin : (text : Text) (fault : Spanned Fault) → is_margin_tab text fault ≡ true → margin_line text (fault.begin + line_end_len (drop fault.begin text)) ≤ stopped_at text fault
unfolding stopped_at
stopped_margin text fault tab = rw tab (omega arith)

-- after a tab in a margin lexing begins again at the line after the margin's last
pub restart_margin : (text : Text) (fault : Spanned Fault) → is_margin_tab text fault ≡ true → next_line text (margin_line text (fault.begin + line_end_len (drop fault.begin text))) ≤ restart text fault
restart_margin text fault tab = restart_at text fault (margin_line text (fault.begin + line_end_len (drop fault.begin text))) (stopped_margin text fault tab)
