use Rattle.std.proofs.Common.{◌≡◌, ◌<◌, Some, ap, ◌∙◌, ◌+◌, ◌*◌, ◌≤◌, ◌^◌, arith, refl, rules, subst}
use Rattle.starlark_grammar.specs.Tokens.{Spanned}
use Rattle.starlark_reader.specs.Inner.Reader.{IsAheadPast, fstring_text_lexeme}
use Rattle.starlark_lexemes.specs.Inner.LexerStates.{left_in}
use Rattle.starlark_lexemes.proofs.FoundWords.{one_more_fits, past_lexing, run_here}
use Rattle.starlark_reader.proofs.TakenPieces.WordsPassed.{text_edges, text_end_here, text_end_taken, text_here_step, text_stepped}
use Rattle.starlark_reader.proofs.TakenPieces.SameTexts.{keeps_passes, keeps_takes}
use Rattle.starlark_lexemes.proofs.LexerStates.{lexing_sound, next_same}
use Rattle.starlark_lexemes.proofs.LexerReads.{peeked_first, peeked_taken}
use Rattle.starlark_lexemes.proofs.PlainLexemes.{fstring_text_shown, next_advances, plain_advances, plain_counts, plain_inside, valueless_passed}
use Rattle.starlark_lexemes.specs.declared.passed.Kind.TheVariants as kind
use Rattle.starlark_token.specs.TokenViews.{TokenView}
use Rattle.starlark_lexemes.proofs.lexer_state.LexerState.pass_fstring_text.Goals as goal

pub plain_text-requires : goal.plain_text-requires
plain_text-requires c = record {
  sound = lexing_sound c.args.self.now c.requires.lexing.1 c.requires.going;
  stage = c.requires.stage;
  idle = c.requires.idle;
}

pub pass_decoded_text-requires : goal.pass_decoded_text-requires
pass_decoded_text-requires c =
    let other = rw c.in-Some-Err.field-0-is at c.in-Some-Err.ensures.other in
    (c.requires.lexing.0, run_here c.args.self.now c.plain_text.new.self c.in-Some-Err.run' c.plain_text.ensures.text c.requires.lexing.1 c.requires.going c.requires.stage c.plain_text.ensures.ahead other)

pub returns-in-Some-Err : goal.returns-in-Some-Err
returns-in-Some-Err c = λ course lexing.
    let other = rw c.in-Some-Err.field-0-is at c.in-Some-Err.ensures.other in
    next_advances c.args.self.now c.pass_decoded_text.result c.pass_decoded_text.new.self
    (next_same c.args.self.now _ _ c.pass_decoded_text.new.self (ap (λ t. t.now) c.plain_text.ensures.text, refl) (c.pass_decoded_text.ensures course (run_here c.args.self.now c.plain_text.new.self c.in-Some-Err.run' c.plain_text.ensures.text lexing c.requires.going c.requires.stage c.plain_text.ensures.ahead other)))

pub put_plain-requires : goal.put_plain-requires
put_plain-requires c =
    let small : c.args.self.now.yielded_count + 1 ≤ 2 ^ 34 = one_more_fits c.args.self.now c.requires.lexing.1.0 (c.requires.lexing.1.1 c.requires.going).0 in
    search (rules, small)

pub put_valued-requires : goal.put_valued-requires
put_valued-requires c =
    let small : c.args.self.now.yielded_count + 1 ≤ 2 ^ 34 = one_more_fits c.args.self.now c.requires.lexing.1.0 (c.requires.lexing.1.1 c.requires.going).0 in
    search (rules, small)

pub take_chunk_end-begin-requires : goal.take_chunk_end-begin-requires
take_chunk_end-begin-requires c = text_end_here c.plain_text.new.self c.in-Some-Ok.found c.plain_text.ensures.sound (rw c.in-Some-Ok.field-0-is at c.in-Some-Ok.ensures.stands) (search rules)

pub pass_chunk-requires : goal.pass_chunk-requires
pass_chunk-requires c = (_, text_here_step c.plain_text.new.self c.in-Some-Ok.found c.plain_text.ensures.sound (rw c.in-Some-Ok.field-0-is at c.in-Some-Ok.ensures.stands))

pub returns-then-found-eq0 : goal.returns-then-found-eq0
returns-then-found-eq0 c = λ course lexing.
    let inv = lexing.1 c.requires.going in
    let mid = c.plain_text.new.self in
    let empty : c.in-Some-Ok.found.len ≡ 0 = search rules in
    let stands = rw c.in-Some-Ok.field-0-is at c.in-Some-Ok.ensures.stands in
    let is = keeps_takes c.args.self.now.reader mid c.take_chunk_end-begin.new.self c.plain_text.ensures.text c.plain_text.ensures.ahead (Some c.take_chunk_end-begin.result) (text_end_taken mid c.in-Some-Ok.found c.plain_text.ensures.sound stands (Some c.take_chunk_end-begin.result) c.take_chunk_end-begin.new.self empty c.take_chunk_end-begin.ensures.read) _ _ _ inv.1 in
    let had = lexing.3 c.requires.going in
    let plain = c.in-Some-Ok.found in
    let some = rw c.in-Some-Ok.field-0-is at c.in-Some-Ok.ensures.some in
    let scanned = rw c.in-Some-Ok.field-0-is at c.in-Some-Ok.ensures.lookahead in
    let peeked = peeked_first c.args.self.now.reader.text.now (plain.len + 3) (6 * plain.len + 4) (plain.len + 3) (6 * plain.len + 4) c.args.self.now.reader c.plain_text.new.self c.requires.stage had scanned (omega arith) (omega arith) in
    let read = peeked_taken c.args.self.now.reader.text.now (plain.len + 3) (6 * plain.len + 4) (plain.len + plain.stop_len) c.plain_text.new.self c.take_chunk_end-begin.new.self peeked (omega (arith, some.1)) (omega (arith, some.0)) c.take_chunk_end-begin.ensures.passed in
    let old = c.args.self.now in
    let new = c.take_chunk_end-begin.new.self in
    let lexeme = c.take_chunk_end-begin.result in
    let kind = c.pending_kind.ensures in
    let one = plain_counts c.pending_kind.result kind.plain in
    rw (c.put_plain.ensures.0, c.put_plain.ensures.1) (plain_advances old c.pending_kind.result _ kind.plain (record {
      passed = valueless_passed course old c.pending_kind.result lexeme _ kind.plain lexing.0 kind.token is;
      lexing = past_lexing old _ new c.is_at_code-self.result lexeme.0 lexeme.2 lexeme.2 lexeme.2 old.token (c.take_chunk_end-begin.ensures.text ∙ c.plain_text.ensures.text) lexing.0 c.requires.going is read (λ yes. c.is_at_code-self.ensures yes old.reader.text.now is.2.is_pending);
      after = rw (c.take_chunk_end-begin.ensures.text, c.plain_text.ensures.text, c.requires.going, one.0, one.1) refl;
    }))

pub returns : goal.returns
returns c = λ course lexing.
    let inv = lexing.1 c.requires.going in
    let mid = c.plain_text.new.self in
    let full : 0 < c.in-Some-Ok.found.len = search rules in
    let stands = rw c.in-Some-Ok.field-0-is at c.in-Some-Ok.ensures.stands in
    let is = keeps_passes c.args.self.now.reader mid c.pass_chunk.new.self c.plain_text.ensures.text c.plain_text.ensures.ahead (λ text. fstring_text_lexeme text mid.at c.in-Some-Ok.found.len) (text_stepped mid c.in-Some-Ok.found c.plain_text.ensures.sound stands c.pass_chunk.new.self full (c.pass_chunk.ensures.read _)) _ _ _ inv.1 in
    let had = lexing.3 c.requires.going in
    let plain = c.in-Some-Ok.found in
    let some = rw c.in-Some-Ok.field-0-is at c.in-Some-Ok.ensures.some in
    let scanned = rw c.in-Some-Ok.field-0-is at c.in-Some-Ok.ensures.lookahead in
    let peeked = peeked_first c.args.self.now.reader.text.now (plain.len + 3) (6 * plain.len + 4) (plain.len + 3) (6 * plain.len + 4) c.args.self.now.reader c.plain_text.new.self c.requires.stage had scanned (omega arith) (omega arith) in
    let read = peeked_taken c.args.self.now.reader.text.now (plain.len + 3) (6 * plain.len + 4) (plain.len + plain.stop_len) c.plain_text.new.self c.pass_chunk.new.self peeked (omega (arith, some.1)) (omega (arith, some.0)) c.pass_chunk.ensures.passed in
    let at = c.plain_text.new.self.at in
    let edges = rw c.plain_text.ensures.text at (text_edges mid c.in-Some-Ok.found c.plain_text.ensures.sound stands) in
    rw (c.put_valued.ensures.0, c.put_valued.ensures.1) (record {
      passed = (
        plain_inside c.args.self.now.reader.text.now kind.FStringText at (at + plain.len) at (at + plain.len) refl lexing.0.fits (omega (arith)) (omega (arith)) edges.0 edges.1 edges.0 edges.1 (omega (arith)),
        subst (λ (view : Spanned TokenView). IsAheadPast course.origin c.args.self.now.reader.text.now view c.pass_chunk.new.self (left_in course c.args.self.now) course.fault) (fstring_text_shown c.args.self.now.reader.text.now at plain.len) is,
      );
      lexing = past_lexing c.args.self.now _ c.pass_chunk.new.self c.args.self.now.is_at_code at (at + plain.len) at (at + plain.len) c.args.self.now.token (c.pass_chunk.ensures.text ∙ c.plain_text.ensures.text) lexing.0 c.requires.going is read (λ yes. cc);
      after = rw (c.pass_chunk.ensures.text, c.plain_text.ensures.text, c.requires.going) refl;
    })
