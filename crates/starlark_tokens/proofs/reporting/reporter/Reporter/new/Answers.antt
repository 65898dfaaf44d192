use Rattle.starlark_base.proofs.Pairs.{position_start}
use Rattle.starlark_tokens.proofs.reporting.reporter.Reporter.new.Goals as goal

pub returns-clause-ready : goal.returns-clause-ready
returns-clause-ready c =
    let start = position_start c.args.text.now c.utf8.text in
    record { marked = c.new-known_positions.ensures.text; known_positions = c.new-known_positions.ensures.known; columns_marked = c.new-byte_columns.ensures.text; byte_columns = c.new-byte_columns.ensures.known; here = start; before_fault = start }
