use Rattle.std.proofs.Common.{◌≤◌, ◌+◌, ◌-◌, ◌∙◌, ap, arith}
use Rattle.starlark_recovery.proofs.restarts.counted_restart.Goals as goal
use Rattle.starlark_recovery.proofs.RestartPlaces.{next_line_after, within_search}
use Rattle.starlark_grammar.specs.Recovery.{next_line, restart}

pub returns-clause-value : goal.returns-clause-value
unfolding restart
returns-clause-value c fault is = c.next_line.ensures.value ∙ ap (next_line c.args.text.now) (c.stopped_at-at.ensures.value fault is)

pub returns-clause-reads : goal.returns-clause-reads
returns-clause-reads c fault is =
    let after = next_line_after c.args.text.now c.stopped_at-at.result c.stopped_at-at.ensures.within in
    let stopped = c.stopped_at-at.ensures.reads in
    let found : c.next_line.new.reads ≤ c.stopped_at-at.new.reads + (next_line c.args.text.now c.stopped_at-at.result - c.stopped_at-at.result + 1) = omega (arith, c.next_line.ensures.reads.1, c.next_line.ensures.value) in
    (omega (arith, stopped.0, c.next_line.ensures.reads.0), within_search c.args.text.now fault c.args.begin c.stopped_at-at.result _ _ _ c.args.is_tab is.is_tab is.begins (c.stopped_at-at.ensures.value fault is) after stopped.1 found)
