use Rattle.std.proofs.Common.{◌≡◌, ◌∙◌, ◌++◌, ◌+◌, ◌∷◌, [], string_bytes, subst, sym, true, is_ok, take, ap}
use Rattle.starlark_run.proofs.Edited.{left_after, newest_after, newest_taken, relexed_more, version_relexed}
use Rattle.starlark_run.specs.Inner.EditedTexts.{AreVersionsLexed}
use Rattle.starlark_run.proofs.edited_texts.relex_each.Goals as goal

pub loop-version-preserved : goal.loop-version-preserved
loop-version-preserved c =
    let inv = c.loop-version.invariant in
    let version = c.version-item.result in
    let versions = c.args.versions.now in
    let first = c.args.first.text in
    let at = c.loop-version.version-index in
    let value : c.as_str.result.now ≡ string_bytes version.text = c.as_str.ensures.value in
    let text : c.in-Ok.edited.text ≡ string_bytes version.text = c.in-Ok.ensures.text ∙ value in
    let reads = rw value at c.in-Ok.ensures.reads in
    let inside = c.loop-version-test.true in
    let is = c.version-item.is in
    let so_far = c.loop-version.reads.items in
    let ok : is_ok c.push.result ≡ true = sym c.in_ok-map_err.ensures.variant in
    let items : c.push.new.self.items ≡ so_far ++ c.reads.result ∷ [] = rw ok at c.push.ensures.items in
    let one = rw inv.text at (version_relexed c.args.file.now c.loop-version.lexed c.in-Ok.edited version text c.in-Ok.ensures.lexed reads) in
    record {
      lexed = (c.args.file.now, c.in-Ok.ensures.lexed);
      left = rw text (left_after c.loop-version.lexed.text versions at version inside is inv.left);
      newest = rw text (newest_after c.loop-version.lexed.text _ versions at version inside is inv.newest);
      text = text ∙ sym (newest_taken first versions at version inside is);
      reads = subst (AreVersionsLexed first (take (at + 1) versions)) (sym (items ∙ ap (λ n. so_far ++ n ∷ []) c.reads.ensures))
          (relexed_more first versions at so_far version c.in-Ok.edited.reads inside is inv.reads one);
    }
