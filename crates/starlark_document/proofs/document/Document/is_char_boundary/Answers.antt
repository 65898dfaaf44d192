use Rattle.std.proofs.Common.{subst, sym, true}
use Rattle.starlark_document.proofs.SegmentOffsets.{HaveLens-laid}
use Rattle.starlark_document.specs.Inner.Segments.{HaveLens}
use Rattle.starlark_document.proofs.document.Document.is_char_boundary.Goals as goal

pub segment_at-requires-clause-lens : goal.segment_at-requires-clause-lens
segment_at-requires-clause-lens c = subst HaveLens (sym c.deref-2.ensures.value) (HaveLens-laid true c.self.inside.segments.items c.self.invariant.0)
