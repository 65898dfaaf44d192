use Rattle.starlark_checks.proofs.NestedStacks.{nested_are_quiet}
use Rattle.starlark_checks.proofs.QuietStacks.{quiet_nest}
use Rattle.starlark_checks.proofs.laws.nested_brackets.Goals as goal

pub returns-clause-quiet : goal.returns-clause-quiet
returns-clause-quiet c = nested_are_quiet

pub returns-clause-nest : goal.returns-clause-nest
returns-clause-nest c = quiet_nest
