use Rattle.std.proofs.Common.{◌+◌, ◌≤◌, ◌^◌, arith, refl, rules}
use Rattle.starlark_reader.specs.Inner.Pending.{comment_lexeme}
use Rattle.starlark_reader.specs.Inner.ReadBounds.{HasRead}
use Rattle.starlark_reader.proofs.TakenPieces.NextLexeme.{lexeme_past}
use Rattle.starlark_lexemes.proofs.FoundWords.{one_more_fits, past_lexing}
use Rattle.starlark_lexemes.proofs.PlainLexemes.{plain_inside}
use Rattle.starlark_lexemes.specs.declared.passed.Kind.TheVariants as kind
use Rattle.starlark_lexemes.proofs.lexer_state.LexerState.pass_pending_comment.Goals as goal

pub put_valued-requires : goal.put_valued-requires
put_valued-requires c =
    let small : c.args.self.now.yielded_count + 1 ≤ 2 ^ 34 = one_more_fits c.args.self.now c.requires.lexing.1.0 (c.requires.lexing.1.1 c.requires.going).0 in
    search (rules, small)

pub returns : goal.returns
returns c = λ course lexing.
    let old = c.args.self.now in
    let inv = lexing.1 c.requires.going in
    let place = c.pass_comment-begin.result in
    let passed = c.pass_comment-begin.ensures in
    let inside = passed.inside in
    let text = old.reader.text.now in
    let new = record old.reader { pending = c.pass_comment-begin.new.self; reads = c.pass_comment-begin.new.reads } in
    let is = lexeme_past text old.reader new (comment_lexeme text place.0 place.1) _ _ (record { at = refl; nesting = refl; levels = refl; before = refl }) refl passed.next passed.lines (λ some. passed.flat) inv.1 in
    let read = lexing.3 c.requires.going in
    let has : HasRead text new = search (rules, read) in
    rw (c.put_valued.ensures.0, c.put_valued.ensures.1) (record {
      passed = (plain_inside text kind.Comment place.0 place.1 (place.0 + 1) place.1 refl lexing.0.fits (omega (arith, inside.order)) (omega (arith, inside.order)) inside.first inside.last inside.value inside.last (omega (arith)), is);
      lexing = past_lexing old _ new c.is_at_code-self.result place.0 place.1 (place.0 + 1) place.1 old.token refl lexing.0 c.requires.going is has (λ yes. c.is_at_code-self.ensures yes text is.2.is_pending);
      after = rw c.requires.going refl;
    })
