-- Reads of the search for where lexing begins again.
use Rattle.std.proofs.Common.{◌≡◌, ◌≤◌, ◌+◌, ◌-◌, ◌*◌, Bool, true, false, ℕ, Some, ap, drop, length, refl, sym, arith}
use Rattle.std.specs.Prelude.{if◌then◌else◌, max}
use Rattle.starlark_grammar.specs.AfterFaults.{is_tab, next_line, restart, stopped_at}
use Rattle.starlark_grammar.specs.Tokens.{Fault, Spanned}
use Rattle.starlark_grammar.specs.Words.{Text}
use Rattle.starlark_token.specs.Lexemes.{fault_view}
use Rattle.starlark_token.specs.declared.lexeme_error.LexemeError.{LexemeError}
use Rattle.starlark_reader.specs.Inner.ReadBounds.{is_tab_error, is_tab_view}
use Rattle.starlark_reader.specs.Searches.{search_reads}
use Rattle.starlark_grammar.proofs.Found.FoundItems.{stopped_past}
use Rattle.starlark_reader.proofs.NextLines.{next_line_drop, next_line_later, restart_end, restart_line, stopped_end}

-- the search after the fault of a tab, and after another
pub tab_search : (text : Text) (fault : Spanned Fault) → is_tab fault.node ≡ true → search_reads text fault ≡ 5 * (restart text fault - fault.begin + 1)
unfolding search_reads
tab_search text fault tab = rw tab refl

pub other_search : (text : Text) (fault : Spanned Fault) → is_tab fault.node ≡ false → search_reads text fault ≡ restart text fault - stopped_at text fault + 1
unfolding search_reads
other_search text fault other = rw other refl

-- lexing begins again after a fault's end, and after the line of the offset where it was read
pub fault_restart : (text : Text) (at begin end : ℕ) (node : Fault) → at ≤ length text → at + end ≤ length text → at + max (next_line (drop at text) 0) end ≤ restart text (record { begin = at + begin; node = node; end = at + end })
fault_restart text at begin end node here inside =
    let fault : Spanned Fault = record { begin = at + begin; node = node; end = at + end } in
    omega (arith, restart_end text fault inside, restart_line text fault, next_line_later text (at + 0) (at + begin) (omega arith), next_line_drop text at 0 here)

-- the reads of a piece that is a fault, with those of the search after it
pub step_search : (text : Text) (at begin end : ℕ) (error : LexemeError) (node : Fault) → fault_view error ≡ Some node → at ≤ length text → at + end ≤ length text
    → (if is_tab_error error then 5 * next_line (drop at text) 0 + 3 else 10 * end + 10) + search_reads text (record { begin = at + begin; node = node; end = at + end })
    ≤ 10 * (restart text (record { begin = at + begin; node = node; end = at + end }) - at) + 12
step_search text at begin end error node view here inside = by (is_tab_error error) (ap is_tab_view view)
  where
    fault : Spanned Fault
    fault = record { begin = at + begin; node = node; end = at + end }

    by : (tab : Bool) → tab ≡ is_tab node → (if tab then 5 * next_line (drop at text) 0 + 3 else 10 * end + 10) + search_reads text fault ≤ 10 * (restart text fault - at) + 12
    by true is = omega (arith, tab_search text fault (sym is), fault_restart text at begin end node here inside)
    by false is = omega (arith, other_search text fault (sym is), fault_restart text at begin end node here inside, stopped_past text fault, stopped_end text fault)
