use Rattle.std.proofs.Common.{◌-◌, ap, length, subst, sym}
use Rattle.std.specs.Str.{IsCharBoundary, IsUtf8}
use Rattle.starlark_tokens.proofs.LineStarts.{line_start_boundary}
use Rattle.starlark_tokens.proofs.told_faults.shown_places.line_start.Goals as goal

pub returns-clause-boundary : goal.returns-clause-boundary
returns-clause-boundary c =
    subst (IsCharBoundary c.args.text.now) (ap (λ t. c.args.at - length t) (sym c.line_front.ensures))
    (line_start_boundary c.args.text.now c.args.at c.utf8.text c.requires (subst IsUtf8 c.line_front.ensures c.line_front.utf8))
