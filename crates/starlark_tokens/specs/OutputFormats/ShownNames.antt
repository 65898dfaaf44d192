-- Names of files and options in messages.
use Rattle.std.specs.Prelude.{◌≡◌, ◌⊎◌}
use Rattle.std.specs.Str.{IsUtf8}
use Rattle.starlark_base.specs.Places.{Text}
use Rattle.starlark_tokens.specs.OutputFormats.PythonLiterals.{quoted_bytes, shown_name}

-- how a name is shown on one line: one that isn't UTF-8 as bytes
abbrev pub IsShownAs : (name shown : Text) → Type 0
IsShownAs name shown = (IsUtf8 name × (shown ≡ shown_name name)) ⊎ ((¬ (IsUtf8 name)) × (shown ≡ quoted_bytes name))
