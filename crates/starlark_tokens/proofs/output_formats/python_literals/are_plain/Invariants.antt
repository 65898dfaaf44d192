use Rattle.std.proofs.Common.{◌≡◌, true}
use Rattle.std.specs.List.{list_all}
use Rattle.starlark_tokens.specs.OutputFormats.PythonLiterals.{is_plain}
use Rattle.starlark_tokens.proofs.output_formats.python_literals.are_plain.Given as goal

-- what was yielded is plain
abbrev pub invariant-loop-character : goal.invariant-loop-character
invariant-loop-character l = list_all is_plain l.yielded ≡ true
