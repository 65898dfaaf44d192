use Rattle.std.proofs.Common.{rules}
use Rattle.starlark_base.proofs.HeldSpans.{same_test}
use Rattle.starlark_run.specs.Edits.{edit_span}
use Rattle.starlark_run.proofs.edits.is_held.Goals as goal

pub returns-then-is_char_boundary-clause-test : goal.returns-then-is_char_boundary-clause-test
returns-then-is_char_boundary-clause-test c =
    same_test c.args.text.now (edit_span c.args.edit.now) c.is_char_boundary-then-is_char_boundary.result c.utf8.text (search rules)

pub returns-else-is_char_boundary-clause-test : goal.returns-else-is_char_boundary-clause-test
returns-else-is_char_boundary-clause-test c =
    same_test c.args.text.now (edit_span c.args.edit.now) c.is_char_boundary.result c.utf8.text (search rules)
