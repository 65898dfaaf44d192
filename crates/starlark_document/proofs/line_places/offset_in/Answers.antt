use Rattle.std.proofs.Common.{arith}
use Rattle.starlark_base.proofs.Pairs.{position_start}
use Rattle.starlark_document.proofs.LinePlaces.{position_bounds}
use Rattle.starlark_document.proofs.line_places.offset_in.Goals as goal

pub loop-at-init : goal.loop-at-init
loop-at-init c = record {
  here = position_start c.args.text.now c.utf8.text;
  before = omega arith;
  none = λ k less stands. absurd (omega (arith, less));
}

pub overflow_add-utf16_column : goal.overflow_add-utf16_column
overflow_add-utf16_column c =
    let bounds = position_bounds c.args.text.now c.loop-at.at c.moved-position.result c.utf8.text (c.is_char_boundary.ensures.test.0 c.if-is_char_boundary.true) c.moved-position.ensures in
    omega (arith, bounds.1, bounds.2, c.requires)
