-- The table is compared with the definition byte by byte.
use Rattle.std.proofs.Common.{nat_eq, get_or, not, refl}
use Rattle.std.proofs.lemmas.Bool.{agree_below_at}
use Rattle.starlark_grammar.specs.Words.{is_in_name}
use Rattle.starlark_words.specs.declared.names.TheConstants.{IN_NAME}
use Rattle.starlark_words.proofs.names.is_in_name.Goals as goal

pub returns : goal.returns
returns c = agree_below_at (λ b. not (nat_eq (get_or IN_NAME b 0) 45)) is_in_name 256 c.args.byte refl c.ranges.byte.fits
