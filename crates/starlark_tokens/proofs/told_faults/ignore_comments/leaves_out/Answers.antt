use Rattle.std.proofs.Common.{◌∙◌, sym}
use Rattle.starlark_tokens.proofs.told_faults.ignore_comments.leaves_out.Goals as goal

pub returns : goal.returns
returns c =
    let all = sym c.is_same.ensures ∙ c.if-is_same.false in
    let begins = sym c.begins_with.ensures ∙ c.if-not-begins_with.false in
    rw (all, begins) (rw c.after_bracket.ensures at c.is_listed.ensures)
