use Rattle.std.proofs.Common.{◌≡◌, ◌-◌, arith, suc, ap, map, sym, take, ◌∙◌, rules}
use Rattle.starlark_lexed_text.specs.Inner.LexedTexts.{last_newline_of}
use Rattle.starlark_token.specs.Lexemes.{lexeme_view}
use Rattle.starlark_lexed_text.proofs.LastNewlines.{one_more_is, one_more_not}
use Rattle.starlark_lexed_text.proofs.tails.last_newline.Goals as goal

pub returns-then-is_newline-clause-value : goal.returns-then-is_newline-clause-value
returns-then-is_newline-clause-value c = search (rules, one_more_is)

pub loop-at-preserved : goal.loop-at-preserved
loop-at-preserved c =
    let next : c.loop-at.at ≡ suc (c.loop-at.at - 1) = omega (arith, c.loop-at-test.true) in
    record {
      inside = omega (arith, c.loop-at.invariant.inside);
      same = c.loop-at.invariant.same ∙ ap (λ n. last_newline_of (map lexeme_view (take n c.args.lexemes.now))) next
          ∙ one_more_not c.args.lexemes.now (c.loop-at.at - 1) c.index-lexemes-at.result (omega (arith, c.loop-at-test.true, c.loop-at.invariant.inside)) (sym c.is_newline.ensures ∙ c.if-is_newline.false);
    }
