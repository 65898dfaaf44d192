-- The table is compared with the definition byte by byte.
use Rattle.std.proofs.Common.{nat_eq, get_or, refl}
use Rattle.std.proofs.lemmas.Bool.{agree_below_at}
use Rattle.starlark_grammar.specs.Words.{is_name_start}
use Rattle.starlark_words.specs.declared.names.TheConstants.{IN_NAME}
use Rattle.starlark_words.proofs.names.is_name_start.Goals as goal

pub returns : goal.returns
returns c = agree_below_at (λ b. nat_eq (get_or IN_NAME b 0) 110) is_name_start 256 c.args.byte refl c.ranges.byte.fits
