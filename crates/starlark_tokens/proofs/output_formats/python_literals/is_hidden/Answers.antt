use Rattle.std.proofs.Common.{nat_lt, refl, sym}
use Rattle.std.proofs.lemmas.Bool.{agree_below_at}
use Rattle.starlark_tokens.specs.OutputFormats.PythonLiterals.{is_hidden}
use Rattle.starlark_tokens.proofs.output_formats.python_literals.is_hidden.Goals as goal

pub returns-then-c-lt127 : goal.returns-then-c-lt127
unfolding is_hidden
returns-then-c-lt127 c = sym (agree_below_at is_hidden (λ b. nat_lt b 32) 127 c.args.c refl c.if-c-lt127.true)
