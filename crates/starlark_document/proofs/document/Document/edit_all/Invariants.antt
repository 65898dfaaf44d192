use Rattle.std.proofs.Common.{◌≡◌, ◌≤◌, length, map, take}
use Rattle.starlark_document.specs.Documents.{AreEdits, edit_view, text_after}
use Rattle.starlark_document.proofs.document.Document.edit_all.Given as goal

abbrev pub invariant-loop-index : goal.invariant-loop-index
invariant-loop-index l = (l.index ≤ length l.edits)
    × AreEdits l.initial.self.text (take l.index (map edit_view l.edits))
    × (l.self.text ≡ text_after (take l.index (map edit_view l.edits)) l.initial.self.text)
