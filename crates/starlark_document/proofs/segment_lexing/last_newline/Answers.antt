use Rattle.std.proofs.Common.{◌≡◌, ◌-◌, suc, arith, drop, false, map, subst, sym, ◌∙◌}
use Rattle.starlark_document.specs.Inner.LexedFronts.{has_newline_view}
use Rattle.starlark_token.specs.Lexemes.{lexeme_view}
use Rattle.starlark_document.proofs.LineEndings.{last_is, last_none}
use Rattle.starlark_document.proofs.segment_lexing.last_newline.Goals as goal

pub returns-then-is_newline-clause-value : goal.returns-then-is_newline-clause-value
returns-then-is_newline-clause-value c =
    let next : c.loop-at.at ≡ suc (c.loop-at.at - 1) = omega (arith, c.loop-at-test.true) in
    sym (last_is c.args.lexemes.now (c.loop-at.at - 1) c.index-lexemes-at.result (omega (arith, c.loop-at-test.true, c.loop-at.invariant.inside))
    (sym c.is_newline.ensures ∙ c.if-is_newline.true) (subst (λ n. has_newline_view (map lexeme_view (drop n c.args.lexemes.now)) ≡ false) next c.loop-at.invariant.none))

pub returns-clause-value : goal.returns-clause-value
returns-clause-value c =
    let none : c.loop-at.at ≡ 0 = omega (arith, c.loop-at-test.false) in
    sym (last_none c.args.lexemes.now (subst (λ n. has_newline_view (map lexeme_view (drop n c.args.lexemes.now)) ≡ false) none c.loop-at.invariant.none))
