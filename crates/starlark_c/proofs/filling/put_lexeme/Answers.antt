use Rattle.std.proofs.Common.{◌≡◌, ◌+◌, ◌∷◌, ◌++◌, suc, length, take, drop, ap, ◌∙◌, arith}
use Rattle.std.proofs.lemmas.List.{set_split}
use Rattle.starlark_c.specs.Inner.Filling.{put}
use Rattle.starlark_c.specs.Records.{record_of, value_bytes}
use Rattle.starlark_c.specs.TextParts.{record_with, stored}
use Rattle.starlark_c.specs.declared.records.LexemeRecord.{LexemeRecord}
use Rattle.starlark_token.specs.Lexemes.{lexeme_view}
use Rattle.starlark_c.proofs.filling.put_lexeme.Goals as goal

pub returns : goal.returns
returns c =
    let lexeme = lexeme_view c.args.lexeme.now in
    let list = c.args.lexemes.now in
    let n = c.args.filled.lexemes in
    let at = c.args.filled.values in
    let part = c.args.part in
    let bytes : c.stored_bytes-bytes.result.now ≡ stored part (value_bytes lexeme.node) = c.stored_bytes-bytes.ensures ∙ ap (stored part) c.bytes_of.ensures in
    let some = c.in_ok-end.ensures.some in
    let one : suc n ≡ n + 1 = omega arith in
    record {
      lexemes_fit = omega (arith, c.if-filled-lexemes.false);
      values_fit = omega (arith, some.0, some.1, ap length bytes);
      lexemes =
          set_split list n c.record_at.result (omega (arith, c.if-filled-lexemes.false))
          ∙ ap (λ (r : LexemeRecord). take n list ++ r ∷ drop (suc n) list) c.record_at.ensures
          ∙ ap (λ k. take n list ++ record_with part (record_of at lexeme) ∷ drop k list) one;
      values = some.2 ∙ ap (λ t. put at t c.args.values.now) bytes;
      adds = ap (λ k. record { lexemes = n + 1; values = k }) (some.0 ∙ ap (λ t. at + length t) bytes);
    }
