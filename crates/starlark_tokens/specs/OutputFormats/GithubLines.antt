-- Annotations of GitHub, one a line.
use Rattle.std.specs.Prelude.{ℕ, ◌+◌, ◌==◌, if◌then◌else◌, ◌++◌, codes, encode_utf8}
use Rattle.std.specs.Fmt.{decimal}
use Rattle.std.specs.List.{flat_map}
use Rattle.std.specs.Str.{chars}
use Rattle.starlark_base.specs.Places.{Text}
use Rattle.starlark_base.specs.declared.codemap.resolved.ResolvedPos.{ResolvedPos}
use Rattle.starlark_tokens.specs.OutputFormats.ItemLines.{reason}

-- a character of a message
abbrev pub github_char : ℕ → Text
github_char c =
    if c == 37 then codes "%25" else (if c == 13 then codes "%0D" else (if c == 10 then codes "%0A" else encode_utf8 c))

-- a character of a property, which a colon and a comma would end
abbrev pub property_char : ℕ → Text
property_char c = if c == 58 then codes "%3A" else (if c == 44 then codes "%2C" else github_char c)

-- a text as a property
abbrev pub property : Text → Text
property text = flat_map property_char (chars text)

-- a text as a message
abbrev pub message : Text → Text
message text = flat_map github_char (chars text)

-- the annotation of a file that has no text, and why
unfoldable pub github_failure : (name reason : Text) → Text
github_failure name reason = codes "::error file=" ++ (property name ++ (codes "::" ++ (message reason ++ codes "\n")))

-- the title and the message of a fault
unfoldable pub title : (code said : Text) → Text
title code said = codes ",title=" ++ (code ++ (codes "::" ++ (message (reason said) ++ codes "\n")))

-- where an annotation ends, after its column
unfoldable pub github_end : ResolvedPos → Text
github_end end = (codes ",endLine=" ++ decimal (end.line + 1)) ++ (codes ",endColumn=" ++ decimal (end.column + 1))

-- the annotation of a fault between two places; the prefix is its begin up to the line
unfoldable pub github_line : (prefix : Text) → (begin end : ResolvedPos) → (code said : Text) → Text
github_line prefix begin end code said =
    (prefix ++ decimal (begin.line + 1)) ++ ((codes ",col=" ++ decimal (begin.column + 1)) ++ (github_end end ++ title code said))
