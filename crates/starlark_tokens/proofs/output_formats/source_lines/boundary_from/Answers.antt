use Rattle.starlark_tokens.proofs.CharacterBoundaries.{boundary_is, first_boundary}
use Rattle.starlark_tokens.proofs.output_formats.source_lines.boundary_from.Goals as goal

pub returns-clause-value : goal.returns-clause-value
returns-clause-value c =
    let found = c.ceil_char_boundary.ensures in
    boundary_is c.args.text.now c.args.at c.ceil_char_boundary.result found.bound found.boundary found.nearest found.beyond

pub returns-clause-first : goal.returns-clause-first
returns-clause-first c other after boundary =
    first_boundary c.args.at c.ceil_char_boundary.result other c.args.text.now c.ceil_char_boundary.ensures.nearest after boundary
