use Rattle.starlark_tokens.proofs.output_formats.token_lines.push_units.Goals as goal

pub returns : goal.returns
returns c = rw c.utf16_from_one-units.ensures at c.write.ensures.bytes
