use Rattle.starlark_tokens.proofs.reporting.file_runs.report_wanted.Goals as goal

pub returns : goal.returns
returns g c = (c.style_of-style.result, rw c.are_named.ensures at c.style_of-style.ensures, c.report_to.ensures)
