use Rattle.std.proofs.Common.{refl, sym, rules}
use Rattle.std.proofs.lemmas.Int.{to_z-of_z}
use Rattle.std.specs.Int.{w32}
use Rattle.std.specs.Prelude.{FitsSigned, IsSomeAnd}
use Rattle.starlark_grammar.specs.Numbers.{integer_in}
use Rattle.starlark_token.specs.TokenInts.{IsBig}
use Rattle.starlark_token.proofs.Integers.Parsed.{parsed, not_parsed, is_kept}
use Rattle.starlark_token.proofs.number_text.number_of.Goals as goal

pub returns-in-Ok-clause-value : goal.returns-in-Ok-clause-value
returns-in-Ok-clause-value c =
    let fits : FitsSigned w32 c.in-Ok.value = rw c.in-Ok.ensures.value.1 c.in-Ok.ensures.value.0.1 in
    rw (to_z-of_z w32 c.in-Ok.value fits) (sym (parsed c.args.base c.args.text.now c.in-Ok.value c.requires.number c.in-Ok.ensures.value))

pub returns-in_err-plain-clause-memory : goal.returns-in_err-plain-clause-memory
returns-in_err-plain-clause-memory c =
    let big : IsSomeAnd (integer_in c.args.base c.args.text.now) IsBig = rw (not_parsed c.args.base c.args.text.now c.requires.number c.in_default.ensures.value) tt in
    search (rules, big)

pub returns-in_err-number-clause-memory : goal.returns-in_err-number-clause-memory
returns-in_err-number-clause-memory c =
    let big : IsSomeAnd (integer_in c.args.base c.args.text.now) IsBig = rw (not_parsed c.args.base c.args.text.now c.requires.number c.in_default.ensures.value) tt in
    search (rules, big)

pub returns-clause-value : goal.returns-clause-value
returns-clause-value c =
    rw (not_parsed c.args.base c.args.text.now c.requires.number c.in_default.ensures.value, c.in_ok-number.ensures, c.is_negative.ensures, c.as_bytes.ensures.value, c.in_ok-plain.ensures, c.unsigned.ensures) refl

pub from_parts-requires : goal.from_parts-requires
from_parts-requires c =
    rw (c.is_negative.ensures, c.as_bytes.ensures.value, c.in_ok-plain.ensures, c.unsigned.ensures) (is_kept c.args.base c.args.text.now c.requires.least c.requires.most c.requires.number c.in_default.ensures.value)
