use Rattle.starlark_lexemes.proofs.LexerItems.{whole_course}
use Rattle.std.proofs.Common.{false, arith}
use Rattle.starlark_token.specs.declared.tokens.Token.TheVariants as token
use Rattle.starlark_lexemes.proofs.LexerStates.{same_lexing, whole_lexing}
use Rattle.starlark_lexemes.proofs.lexer_state.LexerState.new.Goals as goal

pub returns-clause-lexing : goal.returns-clause-lexing
returns-clause-lexing c =
    whole_lexing c.args.text.now (record { yielded_count = 0; is_at_code = false; has_ended = false; reader = c.new.result; begin = 0; end = 0; value_begin = 0; value_end = 0; token = token.Newline; alloc = c.args.alloc }) c.new.ensures.text (same_lexing c.args.text.now (record { yielded_count = 0; is_at_code = false; has_ended = false; reader = c.new.result; begin = 0; end = 0; value_begin = 0; value_end = 0; token = token.Newline; alloc = c.args.alloc }) c.new.ensures.text
    (whole_course c.args.text.now (record { fits = c.requires; utf8 = c.utf8.text }), (λ on. (omega (arith), c.new.ensures.ahead c.args.text.now)), (λ yes. cc), (λ on. c.new.ensures.reads c.args.text.now), (λ yes. cc)))
