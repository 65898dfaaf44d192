use Rattle.std.proofs.Common.{◌≡◌, ap, drop, sym, take, ◌∙◌, Some}
use Rattle.std.proofs.Math.Nat.{sub-zero}
use Rattle.starlark_grammar.specs.Front.{language_front}
use Rattle.starlark_grammar.specs.Words.{class_in, language}
use Rattle.starlark_token.specs.TokenViews.{Whole, token_view}
use Rattle.starlark_reader.specs.Inner.StepViews.{number_of}
use Rattle.starlark_reader.proofs.TakenPieces.CodePlaces.{word_class, word_cut}
use Rattle.starlark_reader.proofs.TakenPieces.NextLexeme.{onward_something}
use Rattle.starlark_reader.proofs.TakenPieces.TakenNumbers.{number_changes, number_step}
use Rattle.starlark_reader.proofs.TakenMargins.PendingLexemes.{after_error}
use Rattle.starlark_reader.proofs.TakenPieces.SameTexts.{at_step, code_after, taken_here}
use Rattle.starlark_reader.proofs.reader.Reader.take_number.Goals as goal

pub range-requires-clause-end_boundary : goal.range-requires-clause-end_boundary
range-requires-clause-end_boundary c =
    word_cut c.range_from-rest.result.now c.args.word.class c.args.word.len c.range_from-rest.utf8 (ap language_front c.range_from-rest.ensures.value ∙ sym c.requires.stands.front)

pub number_token-requires-clause-known : goal.number_token-requires-clause-known
number_token-requires-clause-known c =
    let word : c.range.result.now ≡ take c.args.word.len c.range_from-rest.result.now = c.range.ensures.value ∙ ap (λ n. take n c.range_from-rest.result.now) (sub-zero _) in
    ap (class_in language) word ∙ word_class c.range_from-rest.result.now c.args.word.class c.args.word.len (ap language_front c.range_from-rest.ensures.value ∙ sym c.requires.stands.front)

pub returns-in_err-token-clause-memory : goal.returns-in_err-token-clause-memory
returns-in_err-token-clause-memory c = after_error c.from_residual.result _ (λ origin lexemes fault ahead. onward_something c.args.self.now.text.now c.args.self.now lexemes fault c.requires.stands.idle c.requires.stands.stage ahead)

pub take_token-requires : goal.take_token-requires
take_token-requires c =
    let word : c.range.result.now ≡ take c.args.word.len (drop c.args.self.now.at c.args.self.now.text.now) = c.range.ensures.value ∙ ap (λ n. take n c.range_from-rest.result.now) (sub-zero _) ∙ ap (take c.args.word.len) c.range_from-rest.ensures.value in
    let view : token_view c.in_ok-token.token ≡ Whole (number_of c.args.word.class (take c.args.word.len (drop c.args.self.now.at c.args.self.now.text.now))) = c.in_ok-token.ensures ∙ ap (λ t. Whole (number_of c.args.word.class t)) word in
    at_step c.args.self.now _ c.requires.sound c.requires.stands.stage c.requires.stands.idle (λ origin history kept. number_step c.args.self.now.text.now history c.args.self.now c.args.word c.in_ok-token.token kept c.requires.stands c.requires.class c.requires.plain view)

pub returns-clause-ahead : goal.returns-clause-ahead
returns-clause-ahead c =
    let word : c.range.result.now ≡ take c.args.word.len (drop c.args.self.now.at c.args.self.now.text.now) = c.range.ensures.value ∙ ap (λ n. take n c.range_from-rest.result.now) (sub-zero _) ∙ ap (take c.args.word.len) c.range_from-rest.ensures.value in
    let view : token_view c.in_ok-token.token ≡ Whole (number_of c.args.word.class (take c.args.word.len (drop c.args.self.now.at c.args.self.now.text.now))) = c.in_ok-token.ensures ∙ ap (λ t. Whole (number_of c.args.word.class t)) word in
    taken_here c.args.self.now (Some c.take_token.result) c.take_token.new.self c.requires.stands.stage c.requires.stands.idle
    (λ origin history kept. c.take_token.ensures.read origin history kept (number_step c.args.self.now.text.now history c.args.self.now c.args.word c.in_ok-token.token kept c.requires.stands c.requires.class c.requires.plain view))

pub returns-clause-code : goal.returns-clause-code
returns-clause-code c = code_after c.args.self.now c.take_token.new.self c.take_token.ensures.text (c.take_token.ensures.onward (c.take_token.ensures.stays (number_changes c.args.word.class _ c.in_ok-token.token c.in_ok-token.ensures) c.requires.stands.code))
