use Rattle.std.proofs.Common.{◌≡◌, ◌++◌, ap, drop, sym, take, ◌∙◌, Some, refl}
use Rattle.std.proofs.Math.Nat.{sub-zero}
use Rattle.starlark_grammar.specs.Front.{language_front}
use Rattle.starlark_grammar.specs.declared.class.Class.TheVariants as class
use Rattle.starlark_grammar.specs.declared.class.LiteralKind.TheVariants as kind
use Rattle.starlark_token.specs.TokenViews.{token_view}
use Rattle.starlark_reader.proofs.TakenPieces.CodePlaces.{word_cut}
use Rattle.starlark_reader.proofs.TakenPieces.NextLexeme.{onward_something}
use Rattle.starlark_reader.proofs.TakenPieces.PieceTaken.{bytes_step}
use Rattle.starlark_reader.proofs.TakenMargins.PendingLexemes.{after_error}
use Rattle.starlark_reader.proofs.TakenPieces.SameTexts.{at_step, code_after, taken_here}
use Rattle.starlark_reader.proofs.reader.Reader.take_plain_bytes.Goals as goal

pub range_from-remainder-requires : goal.range_from-remainder-requires
range_from-remainder-requires c = λ some.
    word_cut c.range_from-rest.result.now (class.Opener kind.Bytes c.args.is_raw c.args.quote) c.args.len c.range_from-rest.utf8 (ap language_front c.range_from-rest.ensures.value ∙ sym c.requires.stands.front)

pub returns-in_err-extend_from_slice-clause-memory : goal.returns-in_err-extend_from_slice-clause-memory
returns-in_err-extend_from_slice-clause-memory c = after_error c.from_residual.result _ (λ origin lexemes fault ahead. onward_something c.args.self.now.text.now c.args.self.now lexemes fault c.requires.stands.idle c.requires.stands.stage ahead)

pub take_token-requires : goal.take_token-requires
take_token-requires c =
    let remainder : c.range_from-remainder.result.now ≡ drop c.args.len (drop c.args.self.now.at c.args.self.now.text.now) = c.range_from-remainder.ensures.value ∙ ap (drop c.args.len) c.range_from-rest.ensures.value in
    let part : c.as_bytes.result.now ≡ take c.args.body (drop c.args.len (drop c.args.self.now.at c.args.self.now.text.now)) = c.as_bytes.ensures.value ∙ c.range.ensures.value ∙ ap (λ n. take n c.range_from-remainder.result.now) (sub-zero _) ∙ ap (take c.args.body) remainder in
    let value : c.extend_from_slice.new.self.items ≡ take c.args.body (drop c.args.len (drop c.args.self.now.at c.args.self.now.text.now)) = c.in_ok-extend_from_slice.ensures.items ∙ ap (λ items. items ++ c.as_bytes.result.now) c.new-value.ensures.items ∙ part in
    at_step c.args.self.now _ c.requires.sound c.requires.stands.stage c.requires.stands.idle (λ origin history kept. bytes_step c.args.self.now.text.now history c.args.self.now c.args.is_raw c.args.quote c.args.len c.args.body c.extend_from_slice.new.self kept c.requires.stands c.requires.plain value)

pub returns-clause-ahead : goal.returns-clause-ahead
returns-clause-ahead c =
    let remainder : c.range_from-remainder.result.now ≡ drop c.args.len (drop c.args.self.now.at c.args.self.now.text.now) = c.range_from-remainder.ensures.value ∙ ap (drop c.args.len) c.range_from-rest.ensures.value in
    let part : c.as_bytes.result.now ≡ take c.args.body (drop c.args.len (drop c.args.self.now.at c.args.self.now.text.now)) = c.as_bytes.ensures.value ∙ c.range.ensures.value ∙ ap (λ n. take n c.range_from-remainder.result.now) (sub-zero _) ∙ ap (take c.args.body) remainder in
    let value : c.extend_from_slice.new.self.items ≡ take c.args.body (drop c.args.len (drop c.args.self.now.at c.args.self.now.text.now)) = c.in_ok-extend_from_slice.ensures.items ∙ ap (λ items. items ++ c.as_bytes.result.now) c.new-value.ensures.items ∙ part in
    taken_here c.args.self.now (Some c.take_token.result) c.take_token.new.self c.requires.stands.stage c.requires.stands.idle
    (λ origin history kept. c.take_token.ensures.read origin history kept (bytes_step c.args.self.now.text.now history c.args.self.now c.args.is_raw c.args.quote c.args.len c.args.body c.extend_from_slice.new.self kept c.requires.stands c.requires.plain value))

pub returns-clause-code : goal.returns-clause-code
unfolding token_view
returns-clause-code c = code_after c.args.self.now c.take_token.new.self c.take_token.ensures.text (c.take_token.ensures.onward (c.take_token.ensures.stays refl c.requires.stands.code))
