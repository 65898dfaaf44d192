use Rattle.std.proofs.Common.{◌≡◌, ◌+◌, [], length, refl, ap, subst, inl, inr, ◌∙◌, arith}
use Rattle.std.specs.Prelude.{IfSome, Option}
use Rattle.starlark_c.specs.Inner.Filling.{put}
use Rattle.starlark_c.specs.Records.{fault_bytes}
use Rattle.starlark_c.specs.RecoveredTexts.{capped_counts, sums}
use Rattle.starlark_c.proofs.AddedItems.{put_nothing, put_one, same_contents, same_counts}
use Rattle.starlark_grammar.specs.Tokens.{Fault}
use Rattle.starlark_c.proofs.document_items.add_error.Goals as goal

pub returns-then-filled-faults : goal.returns-then-filled-faults
returns-then-filled-faults c fault view = (
  inr (inr (omega (arith, c.if-filled-faults.true))),
  refl,
  c.plus.ensures ∙ ap (λ k. capped_counts (sums c.args.filled k)) (c.error_counts.ensures fault c.args.begin c.args.end c.args.filled view),
)

pub returns-in_default : goal.returns-in_default
returns-in_default c fault view =
    let bytes : c.bytes_of_fault-named.result.now ≡ fault_bytes fault = subst (λ (o : Option Fault). IfSome o (λ f. c.bytes_of_fault-named.result.now ≡ fault_bytes f)) view c.bytes_of_fault-named.ensures in
    let none = c.in_default.ensures.none in (
      inr (inl (omega (arith, none.0, ap length bytes))),
      same_contents _ _ refl none.1 refl,
      c.plus.ensures ∙ ap (λ k. capped_counts (sums c.args.filled k)) (c.error_counts.ensures fault c.args.begin c.args.end c.args.filled view),
    )

pub returns : goal.returns
returns c fault view =
    let bytes : c.bytes_of_fault-named.result.now ≡ fault_bytes fault = subst (λ (o : Option Fault). IfSome o (λ f. c.bytes_of_fault-named.result.now ≡ fault_bytes f)) view c.bytes_of_fault-named.ensures in
    let some = c.in-Some.ensures.some in
    let at = c.args.filled.values in (
      record {
        lexemes = put_nothing c.args.filled.lexemes [];
        values = record { fits = λ before. omega (arith, some.0, some.1, ap length bytes); is = some.2 ∙ ap (λ t. put at t c.args.values.now) bytes };
        faults = put_one c.args.filled.faults _ _ c.args.faults.now (omega (arith, c.if-filled-faults.false)) (c.error_record.ensures fault view);
      },
      same_counts _ _ (omega arith) (some.0 ∙ ap (λ t. at + length t) bytes) refl,
    )
