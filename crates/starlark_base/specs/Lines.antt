-- The lines of a text: each ends after an LF, and the last at the end of the text.
use Rattle.std.specs.Prelude.{ℕ, zero, suc, ◌+◌, ◌-◌, Bool, ◌==◌, ◌||◌, if◌then◌else◌, List, [], ◌∷◌, map, nat_eq, length, take, count_by, slice_range}
use Rattle.std.specs.List.{suffix_len, ends_with, range_with_len}
use Rattle.starlark_base.specs.Spans.{ByteSpan}
use Rattle.starlark_base.specs.Places.{Text, is_lf}

-- the number of lines: one more than there are LF
abbrev pub line_count : Text → ℕ
line_count text = count_by is_lf text + 1

-- the offset at which a line begins: after as many LF, or at the end of a text that has fewer
abbrev pub line_begin : Text → ℕ → ℕ
line_begin text zero = 0
line_begin [] (suc line) = 0
line_begin (b ∷ rest) (suc line) = suc (if is_lf b then line_begin rest line else line_begin rest (suc line))

-- the span of a line, with its LF
abbrev pub line_span : Text → ℕ → ByteSpan
line_span text line = record { begin = line_begin text line; end = line_begin text (line + 1) }

-- the text of a span
abbrev pub text_of : Text → ByteSpan → Text
text_of text span = slice_range text span.begin span.end

-- the texts of the lines, in order
abbrev pub line_texts : Text → List Text
line_texts text = map (λ line. text_of text (line_span text line)) (range_with_len 0 (line_count text))

-- the span without its last byte, if that is the given one
abbrev pub without_last : ℕ → Text → ByteSpan → ByteSpan
without_last b text span =
    if ends_with nat_eq (text_of text span) (b ∷ [])
    then record { begin = span.begin; end = span.end - 1 }
    else span

-- the span of a line without its LF, and then without one CR at its end
abbrev pub trimmed_line_span : Text → ℕ → ByteSpan
trimmed_line_span text line = without_last 13 text (without_last 10 text (line_span text line))

-- LF or CR
abbrev pub is_line_end : ℕ → Bool
is_line_end b = b == 10 || b == 13

-- the text without all LF and CR at its end
abbrev pub without_line_ends : Text → Text
without_line_ends text = take (length text - suffix_len is_line_end text) text

-- the text of a line, without all LF and CR at its end
abbrev pub line_text : Text → ℕ → Text
line_text text line = without_line_ends (text_of text (line_span text line))
