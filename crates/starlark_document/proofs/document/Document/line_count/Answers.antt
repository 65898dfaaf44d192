use Rattle.std.proofs.Common.{subst, sym, true}
use Rattle.starlark_document.proofs.LinePlaces.{HaveLines-laid}
use Rattle.starlark_document.specs.Inner.Segments.{HaveLines}
use Rattle.starlark_document.proofs.document.Document.line_count.Goals as goal

pub newlines_in-requires-clause-lines : goal.newlines_in-requires-clause-lines
newlines_in-requires-clause-lines c = subst HaveLines (sym c.deref.ensures.value) (HaveLines-laid true c.self.inside.segments.items c.self.invariant.0)
