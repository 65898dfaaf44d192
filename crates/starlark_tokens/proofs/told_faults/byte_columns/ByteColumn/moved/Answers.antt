use Rattle.std.proofs.Common.{◌-◌, ◌∙◌, ◌++◌, ◌≤◌, ap, arith, length, length-drop, length-take-le, not, sym, take, take-add}
use Rattle.std.specs.List.{after_last, suffix_len}
use Rattle.starlark_base.specs.Places.{Text, is_lf}
use Rattle.starlark_tokens.proofs.told_faults.byte_columns.ByteColumn.moved.Goals as goal

line_bound : (front : Text) → length (after_last is_lf front) ≤ length front
line_bound front = omega (arith, length-drop (length front - suffix_len (λ b. not (is_lf b)) front) front)

pub column_after-requires : goal.column_after-requires
column_after-requires c =
    let front = length-take-le c.args.self.at c.args.text.now (omega arith) in
    omega (arith, c.requires.here.is, front, line_bound (take c.args.self.at c.args.text.now))

pub returns-clause-column : goal.returns-clause-column
returns-clause-column c =
    let text = c.args.text.now in
    let at = c.args.self.at in
    let after = c.column_after.ensures (take at text) c.requires.here.is in
    let onward = ap (λ t. length (after_last is_lf t)) (ap (λ t. take at text ++ t) c.range.ensures.value ∙ sym (take-add at (c.args.to - at) text)) in
    record { boundary = c.requires.boundary; is = after ∙ onward ∙ ap (λ n. length (after_last is_lf (take n text))) (omega (arith, c.requires.onward)) }
