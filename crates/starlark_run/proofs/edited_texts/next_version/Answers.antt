use Rattle.std.proofs.Common.{◌≡◌, ◌+◌, ap, arith, length, refl, string_bytes, ◌∙◌}
use Rattle.std.proofs.lemmas.Str.{IsUtf8-string_bytes}
use Rattle.starlark_run.proofs.Edited.{edit_follows, edited_len}
use Rattle.starlark_run.specs.Inner.EditedTexts.{Fits}
use Rattle.starlark_run.proofs.edited_texts.next_version.Goals as goal

pub returns-clause-follows : goal.returns-clause-follows
returns-clause-follows c =
    let text = c.args.text.now in
    let edit = c.args.edit.now in
    let held : Fits text edit = c.if-not-fits.ensures.places refl in
    let len : length (string_bytes c.in_ok-text.text) ≡ c.kept_len-kept.result + length edit.text.now = ap length c.in_ok-text.ensures ∙ edited_len text edit c.kept_len-kept.result held c.kept_len-kept.ensures in
    edit_follows text edit _ c.utf8.text (IsUtf8-string_bytes c.in_ok-text.text) held refl c.in_ok-text.ensures (omega (arith, len, c.if-edit-kept.false))
