-- Worked rows, closed by computing: which place is kept, and what is printed.
use Rattle.std.proofs.Common.{◌≡◌, refl, ◌++◌, None, Some}
use Rattle.std.specs.Prelude.{codes}
use Rattle.starlark_base.specs.Diagnostics.{Diagnosed, unplaced, with_span}
use Rattle.starlark_base.specs.DiagnosedTexts.{diagnosed_text}
use Rattle.starlark_base.specs.Sources.{file_span_text}
use Rattle.starlark_base.specs.declared.codemap.file_span.FileSpan.{FileSpan}

-- of two places that are told one after another, the first is kept
first_is_kept : {T : Type 0} (d : Diagnosed T) (first second : FileSpan) → with_span (with_span d first) second ≡ with_span d first
first_is_kept d first second = refl

-- where no place is known, the one that is told is set
told_is_set : {T : Type 0} (value : T) (place : FileSpan) → (with_span (unplaced value) place).span ≡ Some place
told_is_set value place = refl

prints :
    (place : FileSpan) →
    (diagnosed_text (Some (codes "oops")) (Some place) ≡ Some (codes "oops at " ++ file_span_text place.file place.span))
    × (diagnosed_text (Some (codes "oops")) None ≡ Some (codes "oops"))
    × (diagnosed_text None (Some place) ≡ None)
prints place = (refl, refl, refl)
