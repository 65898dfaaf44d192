-- Code maps as their users see them, the spans that lie in them, and their printed forms.
use Rattle.std.specs.Prelude.{Bool, ◌&&◌, nat_le, ◌++◌, length, take, codes, if◌then◌else◌}
use Rattle.std.specs.Str.{is_utf8, IsCharBoundary}
use Rattle.std.specs.Fmt.{decimal}
use Rattle.starlark_base.specs.Spans.{ByteSpan, Text}
pub use Rattle.starlark_base.specs.Spans.{SourceFile}
use Rattle.starlark_base.specs.Places.{place_at, span_text}

-- both ends of the span are character boundaries of the text
pub record Holds (text : Text) (span : ByteSpan) : Type 0 where
  pub begin : IsCharBoundary text span.begin
  pub end : IsCharBoundary text span.end

-- whether both ends are character boundaries: before each end there are whole characters
unfoldable pub holds : Text → ByteSpan → Bool
holds text span = nat_le span.begin (length text) && nat_le span.end (length text) && is_utf8 (take span.begin text) && is_utf8 (take span.end text)

-- `name:` and the span's lines and columns, or `name:@begin-end` in bytes if the text doesn't hold
-- it
unfoldable pub file_span_text : SourceFile → ByteSpan → Text
file_span_text file span =
    file.filename ++ codes ":" ++ (if holds file.source span
    then span_text (place_at file.source span.begin) (place_at file.source span.end)
    else codes "@" ++ decimal span.begin ++ codes "-" ++ decimal span.end)
