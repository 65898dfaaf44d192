use Rattle.std.proofs.Common.{◌∙◌, sym}
use Rattle.starlark_run.proofs.Edited.{newest_is_last}
use Rattle.starlark_run.proofs.edited_texts.newest.Goals as goal

pub returns-in-Some : goal.returns-in-Some
returns-in-Some c =
    c.as_str.ensures.value ∙ sym (newest_is_last c.args.first.now c.args.versions.now c.in-Some.version.now (sym c.in-Some.ensures.value))
