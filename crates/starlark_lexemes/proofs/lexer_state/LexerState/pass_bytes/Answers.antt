use Rattle.std.proofs.Common.{ap, Some, refl, ◌∙◌}
use Rattle.std.proofs.lemmas.Result.{IfOk-weaker, on_err_weaker}
use Rattle.starlark_reader.proofs.TakenPieces.SameTexts.{keeps_something, keeps_takes}
use Rattle.starlark_grammar.specs.declared.class.LiteralKind.TheVariants as literal
use Rattle.starlark_lexemes.proofs.FoundWords.{literal_here, plain_after, taken_here, word_sound}
use Rattle.starlark_lexemes.proofs.LexerStates.{next_same}
use Rattle.starlark_lexemes.proofs.lexer_state.LexerState.pass_bytes.Goals as goal

pub plain_body_len-requires : goal.plain_body_len-requires
plain_body_len-requires c = record { sound = word_sound c.args.self.now _ _ c.requires.1; stands = c.requires.1.stands }

pub put_taken-requires-clause-taken : goal.put_taken-requires-clause-taken
put_taken-requires-clause-taken c =
    let at = c.requires.1 in (
      c.requires.0,
      taken_here c.args.self.now _ _ (c.take_plain_bytes-taken.ensures.text ∙ c.plain_body_len.ensures.text) at.text at.going at.few
          (IfOk-weaker c.take_plain_bytes-taken.result _ _ (λ given is. keeps_takes c.args.self.now.reader c.plain_body_len.new.self c.take_plain_bytes-taken.new.self c.plain_body_len.ensures.text c.plain_body_len.ensures.ahead (Some given) is _ _ _ at.ahead) c.take_plain_bytes-taken.ensures.ahead)
          (on_err_weaker c.take_plain_bytes-taken.result (λ is. keeps_something c.args.self.now.reader c.plain_body_len.new.self c.plain_body_len.ensures.text c.plain_body_len.ensures.ahead is _ _ _ at.ahead) c.take_plain_bytes-taken.ensures.memory),
    )

pub put_taken-requires-clause-read : goal.put_taken-requires-clause-read
put_taken-requires-clause-read c =
    plain_after c.take_plain_bytes-taken.result c.args.self.now.reader c.plain_body_len.new.self c.take_plain_bytes-taken.new.self c.args.len c.in-Ok.body c.plain_body_len.ensures.text c.take_plain_bytes-taken.ensures.text c.requires.1.read c.in-Ok.ensures.lookahead c.take_plain_bytes-taken.ensures.taken

pub pass_literal-requires : goal.pass_literal-requires
pass_literal-requires c = (c.requires.0, literal_here c.args.self.now c.plain_body_len.new.self literal.Bytes c.args.is_raw c.args.quote c.args.len c.in-Err.run' (λ e. cc) c.plain_body_len.ensures.text c.plain_body_len.ensures.ahead c.requires.1 c.plain_body_len.ensures.stands c.in-Err.ensures.other)

pub returns-in-Ok : goal.returns-in-Ok
returns-in-Ok c = λ course at.
    next_same c.args.self.now _ _ c.put_taken.new.self (ap (λ t. t.now) (c.take_plain_bytes-taken.ensures.text ∙ c.plain_body_len.ensures.text), refl)
    (c.put_taken.ensures course (
    taken_here c.args.self.now _ _ (c.take_plain_bytes-taken.ensures.text ∙ c.plain_body_len.ensures.text) at.text at.going at.few
    (IfOk-weaker c.take_plain_bytes-taken.result _ _ (λ given is. keeps_takes c.args.self.now.reader c.plain_body_len.new.self c.take_plain_bytes-taken.new.self c.plain_body_len.ensures.text c.plain_body_len.ensures.ahead (Some given) is _ _ _ at.ahead) c.take_plain_bytes-taken.ensures.ahead)
    (on_err_weaker c.take_plain_bytes-taken.result (λ is. keeps_something c.args.self.now.reader c.plain_body_len.new.self c.plain_body_len.ensures.text c.plain_body_len.ensures.ahead is _ _ _ at.ahead) c.take_plain_bytes-taken.ensures.memory)))

pub returns-in-Err : goal.returns-in-Err
returns-in-Err c = λ course at.
    next_same c.args.self.now _ _ c.pass_literal.new.self (ap (λ t. t.now) c.plain_body_len.ensures.text, refl)
    (c.pass_literal.ensures course (literal_here c.args.self.now c.plain_body_len.new.self literal.Bytes c.args.is_raw c.args.quote c.args.len c.in-Err.run' (λ e. cc) c.plain_body_len.ensures.text c.plain_body_len.ensures.ahead at c.plain_body_len.ensures.stands c.in-Err.ensures.other))
