use Rattle.std.proofs.Common.{ap, arith, inl, length, subst, sym}
use Rattle.starlark_c.specs.Endings.{IsText}
use Rattle.starlark_c.specs.Inner.Filling.{EndsWithCutPoint}
use Rattle.starlark_c.specs.declared.fill_state.CutPoint.{CutPoint}
use Rattle.starlark_c.proofs.TextParts.{home_of}
use Rattle.starlark_c.proofs.Ends.{ends_memory}
use Rattle.starlark_c.proofs.Filled.{hold_none, values_nil}
use Rattle.starlark_grammar.specs.Words.{Text}
use Rattle.starlark_c.proofs.lexing.lex_with_stop.Goals as goal

pub returns-in_default : goal.returns-in_default
returns-in_default g c =
    let is : IsText c.args.bytes.now = record { utf8 = c.in-Ok.ensures.cases.1; fits = omega (arith, c.if-bytes.false) } in (
      ends_memory (home_of g.row.STAYS c.args.bytes.now) c.args.bytes.now _ _ 0 (record { lexemes = 0; values = 0 }) is (omega arith) (hold_none (home_of g.row.STAYS c.args.bytes.now) (record { lexemes = c.args.lexemes.now; values = c.args.values.now })) (ap (λ (t : Text). record { lexemes = 0; values = length t }) (sym (values_nil (home_of g.row.STAYS c.args.bytes.now)))),
      0,
      omega arith,
      inl (ap (λ (t : CutPoint). t.filled.lexemes) c.none-none.ensures),
      ap (λ (t : CutPoint). t.is_front) c.none-none.ensures,
      tt,
      tt,
    )

pub returns : goal.returns
returns g c =
    subst (λ (t : Text). EndsWithCutPoint (home_of g.row.STAYS t) t c.args.is_front (record { lexemes = c.args.lexemes.now; values = c.args.values.now }) (record { lexemes = c.fill.new.lexemes; values = c.fill.new.values }) c.fill.result)
    c.in-Ok.ensures.cases.0 c.fill.ensures
