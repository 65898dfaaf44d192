use Rattle.std.proofs.Common.{◌∙◌}
use Rattle.starlark_c.proofs.TextParts.{kept_none, kept_value}
use Rattle.starlark_c.proofs.text_parts.part_of_plain.Goals as goal

pub returns-in-Comment : goal.returns-in-Comment
returns-in-Comment c = c.kept_at.ensures ∙ kept_value c.args.text.now c.args.stays c.args.plain c.requires c.in-Comment.is

pub returns-in_default : goal.returns-in_default
returns-in_default c =
    let other = c.in_default in
    kept_none c.args.text.now c.args.stays c.args.plain c.requires other.not-Comment other.not-Identifier other.not-String other.not-FStringText
