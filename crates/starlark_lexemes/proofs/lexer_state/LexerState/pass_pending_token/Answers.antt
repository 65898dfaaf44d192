use Rattle.starlark_token.specs.declared.tokens.Token.{Token}
use Rattle.std.proofs.Common.{ℕ, ◌+◌, ◌≤◌, ◌^◌, Some, refl, rules}
use Rattle.starlark_reader.specs.Inner.ReadBounds.{HasRead}
use Rattle.starlark_reader.proofs.TakenPieces.NextLexeme.{pending_token_next}
use Rattle.starlark_lexemes.proofs.FoundWords.{one_more_fits, past_lexing}
use Rattle.starlark_lexemes.proofs.PlainLexemes.{plain_counts, valueless_passed}
use Rattle.starlark_lexemes.proofs.lexer_state.LexerState.pass_pending_token.Goals as goal

pub put_plain-requires : goal.put_plain-requires
put_plain-requires c =
    let small : c.args.self.now.yielded_count + 1 ≤ 2 ^ 34 = one_more_fits c.args.self.now c.requires.lexing.1.0 (c.requires.lexing.1.1 c.requires.going).0 in
    search (rules, small)

pub returns-clause-passed : goal.returns-clause-passed
returns-clause-passed c = λ some course lexing.
    let old = c.args.self.now in
    let inv = lexing.1 c.requires.going in
    let text = old.reader.text.now in
    let marked = c.next_token.ensures in
    let new = record old.reader { pending = c.next_token.new.self } in
    let lexeme : ℕ × Token × ℕ = (c.in-Some.begin, c.in-Some.token, c.in-Some.end) in
    let is = pending_token_next text old.reader new (Some lexeme) _ _ (record { at = refl; nesting = refl; levels = refl; before = refl }) refl c.requires.none
    (rw c.in-Some.is at marked.next text inv.1.is_pending) (rw c.in-Some.is at marked.lines text) inv.1 in
    let read = lexing.3 c.requires.going in
    let has : HasRead text new = search (rules, read) in
    let kind = c.pending_kind.ensures in
    let one = plain_counts c.pending_kind.result kind.plain in
    rw (c.put_plain.ensures.0, c.put_plain.ensures.1) (record {
      passed = valueless_passed course old c.pending_kind.result lexeme _ kind.plain lexing.0 kind.token is;
      lexing = past_lexing old _ new c.is_at_code-self.result c.in-Some.begin c.in-Some.end c.in-Some.end c.in-Some.end old.token refl lexing.0 c.requires.going is has (λ yes. c.is_at_code-self.ensures yes text is.2.is_pending);
      after = rw (c.requires.going, one.0, one.1) refl;
    })
