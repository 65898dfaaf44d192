use Rattle.std.proofs.Common.{ℕ, ◌-◌, ◌≡◌, ap, arith, drop, false, length, sym, take, ◌∙◌}
use Rattle.starlark_grammar.specs.Inner.Openings.{opening_view}
use Rattle.std.specs.Prelude.{Bool, nat_eq}
use Rattle.std.specs.List.{starts_with}
use Rattle.starlark_grammar.specs.Words.{Text}
use Rattle.starlark_recovery.proofs.LiteralBytes.{closed_here, left_is, line_here, none_left, other_byte, taken_byte}
use Rattle.starlark_recovery.proofs.literal_rests.rest_of.Goals as goal

opens : (at : ℕ) (text quotes closing : Text) {result : Bool} → quotes ≡ closing → result ≡ starts_with nat_eq (take (length text - at) (drop at text)) quotes → starts_with nat_eq (drop at text) closing ≡ result
opens at text quotes closing same is = ap (starts_with nat_eq (drop at text)) (sym same) ∙ ap (λ (t : Text). starts_with nat_eq t quotes) (sym (left_is at text)) ∙ sym is

pub loop-at-preserved-then-is_taken : goal.loop-at-preserved-then-is_taken
loop-at-preserved-then-is_taken c = record {
  inside = omega (arith, c.loop-at-test.true);
  same = taken_byte (opening_view c.args.opening) c.loop-at.at c.args.bytes.now c.loop-at-test.true ∙ rw c.if-is_taken.true at c.loop-at.invariant.same;
}

pub returns-then-starts_with-clause-value : goal.returns-then-starts_with-clause-value
returns-then-starts_with-clause-value c =
    rw c.closing_quotes-quotes.ensures (sym (closed_here (opening_view c.args.opening) c.loop-at.at c.args.bytes.now c.loop-at-test.true (opens c.loop-at.at c.args.bytes.now _ _ c.closing_quotes-quotes.ensures c.starts_with.ensures.value ∙ c.if-starts_with.true)) ∙ rw c.if-is_taken.false at c.loop-at.invariant.same)

pub loop-at-preserved : goal.loop-at-preserved
loop-at-preserved c = record {
  inside = omega (arith, c.loop-at-test.true);
  same = other_byte (opening_view c.args.opening) c.loop-at.at c.args.bytes.now c.loop-at-test.true (opens c.loop-at.at c.args.bytes.now _ _ c.closing_quotes-quotes.ensures c.starts_with.ensures.value ∙ c.if-starts_with.false) (sym c.ends_line.ensures ∙ c.if-ends_line.false) ∙ rw c.if-is_taken.false at c.loop-at.invariant.same;
}

pub returns-after-loop-at-clause-value : goal.returns-after-loop-at-clause-value
returns-after-loop-at-clause-value c = sym (none_left (opening_view c.args.opening) c.loop-at.is_taken c.loop-at.at c.args.bytes.now (omega (arith, c.loop-at-test.false))) ∙ c.loop-at.invariant.same

pub returns-then-ends_line-clause-value : goal.returns-then-ends_line-clause-value
returns-then-ends_line-clause-value c =
    sym (line_here (opening_view c.args.opening) c.loop-at.at c.args.bytes.now c.loop-at-test.true (opens c.loop-at.at c.args.bytes.now _ _ c.closing_quotes-quotes.ensures c.starts_with.ensures.value ∙ c.if-starts_with.false) (sym c.ends_line.ensures ∙ c.if-ends_line.true)) ∙ rw c.if-is_taken.false at c.loop-at.invariant.same
