-- The printed forms of values with a file span.
use Rattle.std.specs.Prelude.{[], Option, Some, None, ◌++◌, codes}
use Rattle.starlark_base.specs.Spans.{Text}
use Rattle.starlark_base.specs.Sources.{file_span_text}
use Rattle.starlark_base.specs.declared.codemap.file_span.FileSpan.{FileSpan}

-- ` at ` and the file span, if it is known
abbrev pub place_suffix : Option FileSpan → Text
place_suffix None = []
place_suffix (Some span) = codes " at " ++ file_span_text span.file span.span

-- the printed text of the value, if that is stated, and the file span
abbrev pub diagnosed_text : Option Text → Option FileSpan → Option Text
diagnosed_text None span = None
diagnosed_text (Some text) span = Some (text ++ place_suffix span)
