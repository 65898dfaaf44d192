use Rattle.std.proofs.Common.{◌≡◌, ap, refl, subst, ◌∙◌, ◌*◌, ◌+◌, ◌-◌, ◌≤◌, ◌^◌, arith, rules}
use Rattle.std.specs.Str.{IsCharBoundary}
use Rattle.starlark_grammar.specs.Tokens.{Spanned}
use Rattle.starlark_grammar.specs.declared.class.LiteralKind.TheVariants as literal
use Rattle.starlark_token.specs.TokenViews.{TokenView}
use Rattle.starlark_reader.specs.Inner.Reader.{IsAheadPast, text_lexeme}
use Rattle.starlark_reader.specs.declared.reader.Reader.{Reader}
use Rattle.starlark_reader.proofs.TakenPieces.WordsPassed.{step_in_code, step_taken, string_inside, string_stepped, string_value}
use Rattle.starlark_reader.proofs.TakenPieces.SameTexts.{keeps_passes}
use Rattle.starlark_lexemes.specs.Inner.LexerStates.{left_in}
use Rattle.starlark_lexemes.specs.declared.passed.Kind.TheVariants as kind
use Rattle.starlark_lexemes.proofs.PlainLexemes.{plain_inside, reader_boundary, string_shown}
use Rattle.starlark_lexemes.proofs.LexerStates.{next_same}
use Rattle.starlark_lexemes.proofs.FoundWords.{literal_here, one_more_fits, past_lexing, word_sound}
use Rattle.starlark_lexemes.proofs.LexerReads.{peeked_more, peeked_taken}
use Rattle.starlark_lexemes.proofs.lexer_state.LexerState.pass_string.Goals as goal

pub plain_body_len-requires : goal.plain_body_len-requires
plain_body_len-requires c = record { sound = word_sound c.args.self.now _ _ c.requires.1; stands = c.requires.1.stands }

pub overflow_add-self : goal.overflow_add-self
overflow_add-self c =
    let at = c.requires.1 in
    let small : c.args.self.now.yielded_count + 1 ≤ 2 ^ 34 = one_more_fits c.args.self.now at.text at.few in
    search (rules, small)

pub overflow_add-len-in-Ok : goal.overflow_add-len-in-Ok
overflow_add-len-in-Ok c =
    let scanned = c.plain_body_len.ensures in
    let inside = string_inside c.plain_body_len.new.self c.args.is_raw c.args.quote c.args.len c.in-Ok.body scanned.sound scanned.stands c.in-Ok.ensures.plain in
    let small : c.args.len + c.in-Ok.body + 1 ≤ 2 ^ 34 = omega (arith, inside) in
    search (rules, small)

pub step_over-requires-clause-fits : goal.step_over-requires-clause-fits
step_over-requires-clause-fits c =
    let scanned = c.plain_body_len.ensures in
    omega (arith, string_inside c.plain_body_len.new.self c.args.is_raw c.args.quote c.args.len c.in-Ok.body scanned.sound scanned.stands c.in-Ok.ensures.plain)

pub returns-in-Ok : goal.returns-in-Ok
returns-in-Ok c = λ course at.
    let old = c.args.self.now in
    let text = old.reader.text.now in
    let body = c.in-Ok.body in
    let len = c.args.len in
    let mid = c.plain_body_len.new.self in
    let new = c.step_over.new.self in
    let stepped = c.step_over.ensures in
    let sound = c.plain_body_len.ensures.sound in
    let stands = c.plain_body_len.ensures.stands in
    let past = ap (λ (reader : Reader). reader.text) stepped in
    let is = keeps_passes old.reader mid new c.plain_body_len.ensures.text c.plain_body_len.ensures.ahead (λ text. text_lexeme text mid.at len body) (string_stepped mid c.args.is_raw c.args.quote len body sound stands c.in-Ok.ensures.plain new stepped) _ _ _ at.ahead in
    let taken = step_taken mid new (len + body + 1) _ (omega arith) stepped in
    let peeked = peeked_more text len (5 * len - 2) (body + 1) (6 * body + 3) (len + body + 1) (5 * len + 6 * body + 3) old.reader mid at.read c.in-Ok.ensures.lookahead (omega arith) (omega arith) in
    let read = peeked_taken text (len + body + 1) (5 * len + 6 * body + 3) (len + body + 1) mid new peeked (omega arith) (omega arith) (taken.1, taken.2) in
    let same : mid.at ≡ old.reader.at = c.in-Ok.ensures.lookahead.0 in
    let first = reader_boundary text old.reader _ _ at.stands.stage at.ahead in
    let last = reader_boundary text new _ _ taken.2 is.2 in
    let value = rw c.plain_body_len.ensures.text at (string_value mid c.args.is_raw c.args.quote len body sound stands c.in-Ok.ensures.plain) in
    let to : mid.at + len + body ≡ new.at - 1 = omega (arith, taken.1.0) in
    rw c.valueless.ensures (record {
      passed = (
        plain_inside text kind.String old.reader.at new.at (old.reader.at + len) (new.at - 1) refl at.text.fits
            (omega (arith, same, taken.1.0)) (omega (arith, same, taken.1.0)) first last
            (subst (λ n. IsCharBoundary text (n + len)) same value.0) (subst (IsCharBoundary text) to value.1) (omega (arith, same, taken.1.0)),
        subst (λ (lexeme : Spanned TokenView). IsAheadPast course.origin text lexeme new (left_in course old) course.fault)
            (string_shown text old.reader.at mid.at len body new.at same taken.1.0) is,
      );
      lexing = past_lexing old _ new old.is_at_code old.begin old.end old.value_begin old.value_end old.token (past ∙ c.plain_body_len.ensures.text) at.text at.going is read (λ yes. rw c.plain_body_len.ensures.text at (step_in_code mid new _ (len + body + 1) _ stands stepped));
      after = rw (past, c.plain_body_len.ensures.text, at.going) refl;
    })

pub pass_literal-kind-requires : goal.pass_literal-kind-requires
pass_literal-kind-requires c = (c.requires.0, literal_here c.args.self.now c.plain_body_len.new.self literal.Text c.args.is_raw c.args.quote c.args.len c.in-Err.run' (λ e. cc) c.plain_body_len.ensures.text c.plain_body_len.ensures.ahead c.requires.1 c.plain_body_len.ensures.stands c.in-Err.ensures.other)

pub returns-in-Err : goal.returns-in-Err
returns-in-Err c = λ course at.
    rw c.passed.ensures (next_same c.args.self.now _ _ c.pass_literal-kind.new.self (ap (λ t. t.now) c.plain_body_len.ensures.text, refl)
    (c.pass_literal-kind.ensures course (literal_here c.args.self.now c.plain_body_len.new.self literal.Text c.args.is_raw c.args.quote c.args.len c.in-Err.run' (λ e. cc) c.plain_body_len.ensures.text c.plain_body_len.ensures.ahead at c.plain_body_len.ensures.stands c.in-Err.ensures.other)))
