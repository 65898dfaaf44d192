use Rattle.std.proofs.Common.{◌∙◌, ap, sym}
use Rattle.starlark_tokens.specs.Files.Globs.{has_after}
use Rattle.starlark_tokens.proofs.GlobParts.{next_item}
use Rattle.starlark_tokens.proofs.files.globs.has.Goals as goal

pub loop-rest-preserved : goal.loop-rest-preserved
loop-rest-preserved c =
    ap (λ rest. has_after 0 rest c.args.byte) c.after-rest.ensures
    ∙ next_item c.loop-rest.rest.now c.args.byte c.item_len.result c.item_len.ensures.value c.item_len.ensures.least (sym c.item_has.ensures ∙ c.if-item_has.false)
    ∙ c.loop-rest.invariant
