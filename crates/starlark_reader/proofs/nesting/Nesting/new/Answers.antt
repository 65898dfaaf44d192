use Rattle.std.proofs.Common.{List, [], refl, subst, sym}
use Rattle.std.specs.Prelude.{reverse}
use Rattle.starlark_reader.specs.declared.nesting.OpenFString.{OpenFString}
use Rattle.starlark_reader.proofs.OpenBrackets.OpenFStrings.{AreOpen, none_at_start}
use Rattle.starlark_reader.proofs.nesting.Nesting.new.Goals as goal

pub returns-clause-begins : goal.returns-clause-begins
returns-clause-begins c = record {
  fstrings = subst (λ (fstrings : List OpenFString). AreOpen (reverse fstrings) []) (sym c.new.ensures.items) none_at_start;
  opened = refl;
  closed = refl;
}
