use Rattle.std.proofs.Common.{rules}
use Rattle.std.specs.Str.{IsUtf8}
use Rattle.starlark_base.proofs.HeldSpans.{same_test}
use Rattle.starlark_base.proofs.codemap.code_map.CodeMap.holds.Goals as goal

pub returns-then-is_char_boundary-clause-test : goal.returns-then-is_char_boundary-clause-test
returns-then-is_char_boundary-clause-test c =
    let text = c.args.self.now.source in
    let utf8 : IsUtf8 text = rw c.source-source.ensures.source at c.source-source.utf8 in
    same_test text c.args.span c.is_char_boundary-then-is_char_boundary.result utf8 (search rules)

pub returns-else-is_char_boundary-clause-test : goal.returns-else-is_char_boundary-clause-test
returns-else-is_char_boundary-clause-test c =
    let text = c.args.self.now.source in
    let utf8 : IsUtf8 text = rw c.source-source.ensures.source at c.source-source.utf8 in
    same_test text c.args.span c.is_char_boundary.result utf8 (search rules)
