use Rattle.starlark_grammar.proofs.Recovery.EarlierLexemes.{lexemes_before_faults}
use Rattle.starlark_grammar.proofs.Recovery.RestartBounds.{restarts_later}
use Rattle.starlark_grammar.proofs.Recovery.RestartLines.{restarts_after_tabs, restarts_at_lines, restarts_at_next_line}
use Rattle.starlark_grammar.proofs.laws.recovery_laws.restarts_at_lines.Goals as goal

pub returns-clause-later : goal.returns-clause-later
returns-clause-later c = restarts_later

pub returns-clause-earlier : goal.returns-clause-earlier
returns-clause-earlier c = lexemes_before_faults

pub returns-clause-line : goal.returns-clause-line
returns-clause-line c = restarts_at_lines

pub returns-clause-next : goal.returns-clause-next
returns-clause-next c = restarts_at_next_line

pub returns-clause-tab : goal.returns-clause-tab
returns-clause-tab c = restarts_after_tabs
