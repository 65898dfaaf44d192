use Rattle.std.proofs.Common.{◌∙◌}
use Rattle.starlark_c.proofs.TextParts.{copied_bytes, kept_bytes}
use Rattle.starlark_c.proofs.text_parts.stored_plain.Goals as goal

pub returns-then-stays : goal.returns-then-stays
returns-then-stays c = kept_bytes c.args.text.now c.args.stays c.args.plain c.requires c.if-stays.true

pub returns : goal.returns
returns c = c.bytes_of_plain.ensures ∙ copied_bytes c.args.text.now c.args.stays c.args.plain c.if-stays.false
