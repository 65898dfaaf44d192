-- Results of SARIF, and its notifications.
use Rattle.std.specs.Prelude.{ℕ, ◌+◌, ◌==◌, nat_eq, Bool, ◌||◌, if◌then◌else◌, [], ◌∷◌, ◌++◌, codes}
use Rattle.std.specs.Fmt.{decimal}
use Rattle.std.specs.List.{flat_map, starts_with}
use Rattle.starlark_base.specs.Places.{Text}
use Rattle.starlark_base.specs.declared.codemap.resolved.ResolvedPos.{ResolvedPos}
use Rattle.starlark_tokens.specs.OutputFormats.JsonStrings.{json_string}
use Rattle.starlark_tokens.specs.OutputFormats.ItemLines.{reason}
use Rattle.starlark_run.specs.Output.{hex_pair}
use Rattle.starlark_tokens.specs.OutputFormats.PythonLiterals.{is_between}

-- a byte that stands for itself in a URI's path
abbrev pub is_unreserved : ℕ → Bool
is_unreserved byte =
    is_between 97 122 byte || is_between 65 90 byte || is_between 48 57 byte
    || byte == 45 || byte == 46 || byte == 47 || byte == 95 || byte == 126

-- a byte of a URI's path
abbrev pub uri_byte : ℕ → Text
uri_byte byte = if is_unreserved byte then byte ∷ [] else 37 ∷ hex_pair byte

-- a path as a URI: a relative one as a reference
abbrev pub uri : Text → Text
uri path = (if starts_with nat_eq path (codes "/") then codes "file://" else []) ++ flat_map uri_byte path

-- what is between the message of a result and its line
abbrev pub sarif_prefix : (name : Text) → Text
sarif_prefix name =
    codes "},\"locations\":[{\"physicalLocation\":{\"artifactLocation\":{\"uri\":\"" ++ (uri name ++ codes "\"},\"region\":{\"startLine\":")

-- the code and message of a result, after a comma
unfoldable pub sarif_words : (code said : Text) → Text
sarif_words code said =
    codes ",\n{\"ruleId\":\"" ++ (code ++ (codes "\",\"level\":\"error\",\"message\":{\"text\":" ++ json_string (reason said)))

-- where a result begins, after what is between its message and its line
unfoldable pub sarif_begin : (prefix : Text) → ResolvedPos → Text
sarif_begin prefix begin = (prefix ++ decimal (begin.line + 1)) ++ (codes ",\"startColumn\":" ++ decimal (begin.column + 1))

-- where it ends, and its end
unfoldable pub sarif_end : ResolvedPos → Text
sarif_end end =
    (codes ",\"endLine\":" ++ decimal (end.line + 1)) ++ ((codes ",\"endColumn\":" ++ decimal (end.column + 1)) ++ codes "}}}]}")

-- a fault between two places as a result, after a comma
unfoldable pub sarif_result : (prefix : Text) → (begin end : ResolvedPos) → (code said : Text) → Text
sarif_result prefix begin end code said = sarif_words code said ++ (sarif_begin prefix begin ++ sarif_end end)

-- that a file has no text, and why, as a notification after a comma
unfoldable pub sarif_notice : (name reason : Text) → Text
sarif_notice name reason =
    (codes ",\n{\"level\":\"error\",\"message\":{\"text\":" ++ json_string reason)
    ++ (codes "},\"locations\":[{\"physicalLocation\":{\"artifactLocation\":{\"uri\":\"" ++ (uri name ++ codes "\"}}}]}"))
