-- Worked rows, closed by computing: the definitions give these lines, places and printed texts.
use Rattle.std.proofs.Common.{◌≡◌, ℕ, refl}
use Rattle.std.specs.Prelude.{codes, encode_utf8, true, false, [], ◌∷◌, ◌++◌}
use Rattle.std.proofs.Math.Utf8.{encode}
use Rattle.std.specs.Str.{chars, is_utf8}
use Rattle.std.specs.Fmt.{digits}
use Rattle.starlark_base.specs.Spans.{ByteSpan}
use Rattle.starlark_base.specs.SpanPairs.{merged_all}
use Rattle.starlark_base.specs.Places.{Text, place_after, place_at, span_text}
use Rattle.starlark_base.specs.Lines.{line_count, line_span, line_text, trimmed_line_span}
use Rattle.starlark_base.specs.Sources.{SourceFile, holds, file_span_text}
use Rattle.starlark_base.specs.declared.codemap.resolved.ResolvedPos.{ResolvedPos}

abbrev span : ℕ → ℕ → ByteSpan
span begin end = record { begin = begin; end = end }

abbrev pos : ℕ → ℕ → ResolvedPos
pos line column = record { line = line; column = column }

-- lines that end in carriage returns
abbrev returns : Text
returns = codes "ab" ++ (13 ∷ 10 ∷ 13 ∷ 10 ∷ 99 ∷ 13 ∷ [])

lines :
    (line_count returns ≡ 3)
    × (line_span returns 0 ≡ span 0 4)
    × (line_span returns 1 ≡ span 4 6)
    × (line_span returns 2 ≡ span 6 8)
    × (trimmed_line_span returns 0 ≡ span 0 2)
    × (trimmed_line_span returns 1 ≡ span 4 4)
    × (trimmed_line_span returns 2 ≡ span 6 7)
    × (line_text returns 0 ≡ codes "ab")
    × (line_text returns 1 ≡ [])
    × (line_text returns 2 ≡ codes "c")
lines = (refl, refl, refl, refl, refl, refl, refl, refl, refl, refl)

places :
    (place_at (codes "abcd\nefghij\nqwerty") 0 ≡ pos 0 0)
    × (place_at (codes "abcd\nefghij\nqwerty") 4 ≡ pos 0 4)
    × (place_at (codes "abcd\nefghij\nqwerty") 5 ≡ pos 1 0)
    × (place_at (codes "abcd\nefghij\nqwerty") 16 ≡ pos 2 4)
    × (place_at (codes "a" ++ encode_utf8 233 ++ codes "\n" ++ encode_utf8 128300) 3 ≡ pos 0 2)
    × (place_at (codes "a" ++ encode_utf8 233 ++ codes "\n" ++ encode_utf8 128300) 8 ≡ pos 1 1)
unfolding place_after chars encode
places = (refl, refl, refl, refl, refl, refl)

printed :
    (span_text (pos 0 0) (pos 0 0) ≡ codes "1:1")
    × (span_text (pos 0 0) (pos 0 32) ≡ codes "1:1-33")
    × (span_text (pos 0 0) (pos 2 32) ≡ codes "1:1-3:33")
unfolding span_text digits
printed = (refl, refl, refl)

-- a file named `a` that holds `é`
abbrev file : SourceFile
file = record { id = 1; filename = codes "a"; source = encode_utf8 233 }

held :
    (holds file.source (span 0 1) ≡ false)
    × (holds file.source (span 0 2) ≡ true)
    × (holds file.source (span 0 3) ≡ false)
    × (file_span_text file (span 0 1) ≡ codes "a:@0-1")
    × (file_span_text file (span 1 3) ≡ codes "a:@1-3")
    × (file_span_text file (span 0 2) ≡ codes "a:1:1-2")
unfolding holds is_utf8 file_span_text span_text place_after chars encode digits
held = (refl, refl, refl, refl, refl, refl)

merging : (merged_all (span 4 6 ∷ span 1 2 ∷ []) ≡ span 1 6) × (merged_all [] ≡ span 0 0)
merging = (refl, refl)
