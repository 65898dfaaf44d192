use Rattle.std.proofs.Common.{subst, sym}
use Rattle.starlark_c.specs.Inner.DocumentItems.{AreWithin}
use Rattle.starlark_c.proofs.TouchingItems.{faults_within}
use Rattle.starlark_c.proofs.document_items.faults_within.Goals as goal

pub returns-clause-within : goal.returns-clause-within
returns-clause-within c = subst AreWithin (sym c.faults.ensures) (faults_within c.args.document.now.text c.requires)
