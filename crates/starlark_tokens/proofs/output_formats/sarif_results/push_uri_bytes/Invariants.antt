use Rattle.std.proofs.Common.{◌≡◌, ◌++◌, string_bytes, take}
use Rattle.std.specs.List.{flat_map}
use Rattle.starlark_tokens.specs.OutputFormats.SarifResults.{uri_byte}
use Rattle.starlark_tokens.proofs.output_formats.sarif_results.push_uri_bytes.Given as goal

-- the bytes so far are put
abbrev pub invariant-loop-byte : goal.invariant-loop-byte
invariant-loop-byte l = string_bytes l.line ≡ string_bytes l.fn.line ++ flat_map uri_byte (take l.byte-index l.path)
