use Rattle.std.proofs.Common.{true}
use Rattle.starlark_document.proofs.LaidSegments.{lens_laid}
use Rattle.starlark_document.proofs.edited_parts.range_in.Goals as goal

pub segment_at-first-requires-clause-lens : goal.segment_at-first-requires-clause-lens
segment_at-first-requires-clause-lens c = lens_laid true c.args.segments.now c.requires.laid

pub end_at-last-requires-clause-lens : goal.end_at-last-requires-clause-lens
end_at-last-requires-clause-lens c = lens_laid true c.args.segments.now c.requires.laid
