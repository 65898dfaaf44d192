use Rattle.std.proofs.Common.{◌≡◌, ◌+◌, [], length, refl, ap, inl, inr, ◌∙◌, arith}
use Rattle.starlark_c.specs.Inner.Filling.{put}
use Rattle.starlark_c.specs.Records.{value_bytes}
use Rattle.starlark_c.specs.RecoveredTexts.{capped_counts, sums}
use Rattle.starlark_c.proofs.AddedItems.{put_nothing, put_one, same_contents, same_counts}
use Rattle.starlark_token.specs.TokenViews.{token_view}
use Rattle.starlark_c.proofs.document_items.add_token.Goals as goal

pub returns-then-filled-lexemes : goal.returns-then-filled-lexemes
returns-then-filled-lexemes c = (
  inl (omega (arith, c.if-filled-lexemes.true)),
  refl,
  c.plus.ensures ∙ ap (λ k. capped_counts (sums c.args.filled k)) (c.token_counts.ensures c.args.begin c.args.end c.args.filled),
)

pub returns-in_default : goal.returns-in_default
returns-in_default c =
    let bytes : c.bytes_of.result.now ≡ value_bytes (token_view c.args.token.now) = c.bytes_of.ensures in
    let none = c.in_default.ensures.none in (
      inr (inl (omega (arith, none.0, ap length bytes))),
      same_contents _ _ refl none.1 refl,
      c.plus.ensures ∙ ap (λ k. capped_counts (sums c.args.filled k)) (c.token_counts.ensures c.args.begin c.args.end c.args.filled),
    )

pub returns : goal.returns
returns c =
    let bytes : c.bytes_of.result.now ≡ value_bytes (token_view c.args.token.now) = c.bytes_of.ensures in
    let some = c.in-Some.ensures.some in
    let at = c.args.filled.values in (
      record {
        lexemes = put_one c.args.filled.lexemes _ _ c.args.lexemes.now (omega (arith, c.if-filled-lexemes.false)) c.token_record_at.ensures;
        values = record { fits = λ before. omega (arith, some.0, some.1, ap length bytes); is = some.2 ∙ ap (λ t. put at t c.args.values.now) bytes };
        faults = put_nothing c.args.filled.faults [];
      },
      same_counts _ _ refl (some.0 ∙ ap (λ t. at + length t) bytes) (omega arith),
    )
