use Rattle.std.proofs.Common.{◌≡◌, ℕ, Option, ◌+◌, ◌∷◌, ◌++◌, suc, length, take, drop, ap, ◌∙◌, arith}
use Rattle.std.proofs.lemmas.List.{set_split}
use Rattle.starlark_c.specs.Inner.Filling.{put}
use Rattle.starlark_c.specs.Records.{record_of, value_bytes}
use Rattle.starlark_c.specs.TextParts.{home, part_in, record_with, stored}
use Rattle.starlark_c.specs.declared.records.LexemeRecord.{LexemeRecord}
use Rattle.starlark_lexemes.specs.PlainLexemes.{plain_view}
use Rattle.starlark_c.proofs.filling.put_plain.Goals as goal

pub returns : goal.returns
returns c =
    let text = c.args.text.now in
    let lexeme = plain_view text c.args.plain in
    let list = c.args.lexemes.now in
    let n = c.args.filled.lexemes in
    let at = c.args.filled.values in
    let part = part_in (home c.args.stays text) lexeme in
    let bytes : c.bytes_of_plain-bytes.result.now ≡ value_bytes lexeme.node = c.bytes_of_plain-bytes.ensures in
    let kept : c.stored_plain.result.now ≡ stored part (value_bytes lexeme.node) = c.stored_plain.ensures in
    let place : c.part_of_plain-part.result ≡ part = c.part_of_plain-part.ensures in
    let some = c.in_ok-end.ensures.some in
    let one : suc n ≡ n + 1 = omega arith in
    record {
      lexemes_fit = omega (arith, c.if-lexemes-filled.false);
      values_fit = omega (arith, some.0, some.1, ap length kept);
      lexemes =
          set_split list n c.plain_record_at.result (omega (arith, c.if-lexemes-filled.false))
          ∙ ap (λ (r : LexemeRecord). take n list ++ r ∷ drop (suc n) list) (c.plain_record_at.ensures text (ap length bytes) ∙ ap (λ (p : Option ℕ). record_with p (record_of at lexeme)) place)
          ∙ ap (λ k. take n list ++ record_with part (record_of at lexeme) ∷ drop k list) one;
      values = some.2 ∙ ap (λ t. put at t c.args.values.now) kept;
      adds = ap (λ k. record { lexemes = n + 1; values = k }) (some.0 ∙ ap (λ t. at + length t) kept);
    }
