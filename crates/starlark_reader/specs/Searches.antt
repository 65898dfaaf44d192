-- How often bytes are read to find where lexing begins again.
use Rattle.std.specs.Prelude.{◌+◌, ◌-◌, ◌*◌, if◌then◌else◌, ℕ}
use Rattle.starlark_grammar.specs.AfterFaults.{is_tab, restart, stopped_at}
use Rattle.starlark_grammar.specs.Tokens.{Fault, Spanned}
use Rattle.starlark_grammar.specs.Words.{Text}

-- reads that find where lexing begins again after a fault, at most: five for each byte from the
-- start of a tab's fault on, and five more; or one for each byte from where another fault stopped the
-- reading, and one more
unfoldable pub search_reads : Text → Spanned Fault → ℕ
search_reads text fault =
    if is_tab fault.node then 5 * (restart text fault - fault.begin + 1) else restart text fault - stopped_at text fault + 1
