use Rattle.std.proofs.Common.{◌≡◌, drop, take}
use Rattle.starlark_run.specs.Edits.{text_after}
use Rattle.starlark_run.specs.Inner.EditedTexts.{AreVersions, AreVersionsAfter, newest_text}
use Rattle.starlark_run.proofs.edited_texts.versions_of.Given as goal

-- what all edits leave is what those that are left leave of the newest version
abbrev pub invariant-loop-at : goal.invariant-loop-at
invariant-loop-at l = record {
  versions : AreVersions l.first l.versions.items;
  edited : AreVersionsAfter l.first (take l.at l.edits) l.versions.items;
  left : text_after 0 l.first l.edits ≡ text_after l.at (newest_text l.first l.versions.items) (drop l.at l.edits);
}
