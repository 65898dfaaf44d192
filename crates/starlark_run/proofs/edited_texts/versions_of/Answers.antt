use Rattle.std.proofs.Common.{◌≡◌, ◌≤◌, ◌+◌, ◌++◌, ◌∷◌, [], ap, drop, length, string_bytes, subst, sym, take, true, is_ok, ◌∙◌}
use Rattle.starlark_run.proofs.Edited.{newest_fits, newest_more, one_taken, versions_after, versions_more}
use Rattle.starlark_run.specs.Edits.{greatest_len, text_after}
use Rattle.starlark_run.specs.Inner.EditedTexts.{AreVersions, AreVersionsAfter, newest_text}
use Rattle.starlark_run.proofs.edited_texts.versions_of.Goals as goal

pub next_version-requires : goal.next_version-requires
next_version-requires c =
    let newest : c.newest.result.now ≡ newest_text c.args.first.now c.loop-at.versions.items = c.newest.ensures ∙ ap (newest_text c.args.first.now) c.deref.ensures.value in
    subst (λ t. length t ≤ greatest_len) (sym newest) (newest_fits c.args.first.now c.loop-at.versions.items c.loop-at.invariant.versions c.requires)

pub loop-at-preserved : goal.loop-at-preserved
loop-at-preserved c =
    let inv = c.loop-at.invariant in
    let at = c.loop-at.at in
    let first = c.args.first.now in
    let versions = c.loop-at.versions.items in
    let next = c.in_ok-version.version in
    let newest : c.newest.result.now ≡ newest_text first versions = c.newest.ensures ∙ ap (newest_text first) c.deref.ensures.value in
    let ok : is_ok c.push.result ≡ true = sym c.in_ok-map_err.ensures.variant in
    let items : c.push.new.self.items ≡ versions ++ next ∷ [] = rw ok at c.push.ensures.items in
    let taken = rw newest at c.in_ok-version.ensures.text in
    let left = one_taken at (newest_text first versions) (string_bytes next.text) c.args.edits.now _ c.loop-at-test.true taken in
    record {
      versions = subst (AreVersions first) (sym items) (versions_more first versions next inv.versions (rw newest at c.in_ok-version.ensures.follows));
      edited = subst (AreVersionsAfter first (take (at + 1) c.args.edits.now)) (sym items) (versions_after first c.args.edits.now versions at _ next c.loop-at-test.true inv.edited (rw newest at c.in_ok-version.ensures.edited));
      left = inv.left ∙ left ∙ ap (λ t. text_after (at + 1) t (drop (at + 1) c.args.edits.now)) (sym (newest_more first versions next) ∙ ap (newest_text first) (sym items));
    }
