-- Where a fault is shown: on the line that has to be changed. Only two faults begin before it.
use Rattle.std.specs.Prelude.{ℕ, ◌+◌, ◌-◌, not, ◌==◌, nat_lt, if◌then◌else◌, nat_eq, length, drop, codes}
use Rattle.std.specs.List.{prefix_len, starts_with}
use Rattle.starlark_base.specs.Places.{Text}
use Rattle.starlark_grammar.specs.Tokens.{Fault, Indentation, InvalidTab}
use Rattle.starlark_grammar.specs.Recovery.{line_end_len, margin_line}
use Rattle.starlark_tokens.specs.OutputFormats.ItemLines.{line_front}
use Rattle.starlark_base.specs.declared.position.Position.{Position}
use Rattle.starlark_tokens.specs.declared.told_faults.shown_places.Shown.{Shown}
use Rattle.starlark_tokens.specs.declared.told_faults.shown_places.Shown.TheVariants.{Begin, Tab, LastLine}

-- the start of the line that an offset is on
abbrev pub line_start : Text → ℕ → ℕ
line_start text at = at - length (line_front text at)

-- the first tab from an offset on
abbrev pub next_tab : Text → ℕ → ℕ
next_tab text at = at + prefix_len (λ b. not (b == 9)) (drop at text)

-- The tab that a fault is about: the fault is at it, or else before a margin that has it. The margin is after the line
-- end at the fault, or at the fault itself, and its comment-only lines may have tabs.
unfoldable pub tab_of : Text → ℕ → ℕ
tab_of text at =
    if starts_with nat_eq (drop at text) (codes "\t") then at else next_tab text (margin_line text (at + line_end_len (drop at text)))

-- where a fault between two offsets is shown
unfoldable pub shown_at : Text → Shown → (begin end : ℕ) → ℕ
shown_at text Begin begin end = begin
shown_at text Tab begin end = tab_of text begin
shown_at text LastLine begin end = line_start text end

-- where what is shown of a fault ends: a fault may end before the place where it is shown
abbrev pub shown_end : (shown end : Position) → Position
shown_end shown end = if nat_lt end.at shown.at then shown else end

-- which of these it is: the fault of an indentation is shown on its last line, that of a tab at the tab
abbrev pub shown_of : Fault → Shown
shown_of Indentation = LastLine
shown_of InvalidTab = Tab
shown_of fault = Begin
