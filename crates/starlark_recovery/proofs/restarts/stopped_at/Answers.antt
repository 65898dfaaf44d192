use Rattle.std.proofs.Common.{◌∙◌, arith, refl, sym, false, rules}
use Rattle.starlark_recovery.proofs.RestartPlaces.{no_margin_tab, stopped_is}
use Rattle.starlark_grammar.specs.Recovery.{is_margin_tab}
use Rattle.starlark_reader.proofs.NextLines.{next_line_later}
use Rattle.starlark_recovery.proofs.restarts.stopped_at.Goals as goal
use Rattle.starlark_recovery.proofs.restarts.stopped_at.Goals.{then-is_tab, else-is_tab}

pub returns-clause-value : goal.returns-clause-value
returns-clause-value c fault is =
    let text = c.args.text.now in
    elim c.if-is_tab.branch [
      | then-is_tab w ↦ stopped_is text fault c.args.begin c.args.end c.args.is_tab (is_margin_tab text fault) _ c.max.result is refl (w.line-is ∙ w.tab_line-line.ensures.value fault (sym is.begins) (sym is.is_tab ∙ w.if-is_tab.true)) (omega arith)
      | else-is_tab w ↦ stopped_is text fault c.args.begin c.args.end c.args.is_tab false _ c.max.result is (no_margin_tab text fault (sym is.is_tab ∙ w.if-is_tab.false)) w.line-is (omega arith)
    ]

pub returns-clause-reads : goal.returns-clause-reads
returns-clause-reads c = search (rules, next_line_later)
