-- Where lexing begins again after a fault.
use Rattle.std.specs.Prelude.{ℕ, ◌+◌, ◌-◌, max, min, Bool, true, false, ◌&&◌, ◌||◌, not, ◌==◌, if◌then◌else◌, nat_eq, length, drop, codes}
use Rattle.std.specs.List.{prefix_len, starts_with}
use Rattle.starlark_grammar.specs.Words.{Text}
use Rattle.starlark_grammar.specs.Tokens.{Spanned, Fault, InvalidTab}
use Rattle.starlark_grammar.specs.Margins.{is_lf, margin_of, begins_with_line_end}

-- The start of the line after the one that holds an offset, or the end of the text.
unfoldable pub next_line : Text → ℕ → ℕ
next_line text at = min (length text) (at + prefix_len (λ b. not (is_lf b)) (drop at text) + 1)

-- how many bytes the line end at the front of a text has; 0 if there is none
abbrev pub line_end_len : Text → ℕ
line_end_len text = if starts_with nat_eq text (codes "\n") then 1 else (if starts_with nat_eq text (codes "\r\n") then 2 else 0)

-- The start of the last line of a margin, by the start of the margin: its comment-only lines lie between.
abbrev pub margin_line : Text → ℕ → ℕ
margin_line text at = at + (margin_of (drop at text)).at

abbrev pub is_tab : Fault → Bool
is_tab InvalidTab = true
is_tab fault = false

-- A tab in a margin. Its fault is at the line end before the margin, or at the start of the text; that of a tab in
-- code is at the tab, which is at neither.
abbrev pub is_margin_tab : Text → Spanned Fault → Bool
is_margin_tab text fault = is_tab fault.node && (fault.begin == 0 || begins_with_line_end (drop fault.begin text))

-- An offset in the line where the reading of a text stopped by a fault: that of the fault's last byte, or the fault's
-- own if it is empty. Only the fault of a tab in a margin is before its line.
unfoldable pub stopped_at : Text → Spanned Fault → ℕ
stopped_at text fault =
    max (fault.end - 1) (if is_margin_tab text fault then margin_line text (fault.begin + line_end_len (drop fault.begin text)) else fault.begin)

-- Where lexing begins again after a fault: at the next line.
unfoldable pub restart : Text → Spanned Fault → ℕ
restart text fault = next_line text (stopped_at text fault)
