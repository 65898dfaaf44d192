use Rattle.std.proofs.Common.{ap, subst, sym, ◌∙◌, length}
use Rattle.std.specs.List.{starts_with}
use Rattle.std.specs.Prelude.{nat_eq}
use Rattle.std.specs.Str.{IsCharBoundary}
use Rattle.starlark_grammar.specs.Inner.Openings.{opening_view}
use Rattle.starlark_grammar.specs.Words.{Text}
use Rattle.starlark_recovery.proofs.LiteralBytes.{quotes_boundary}
use Rattle.starlark_recovery.proofs.stand_ins.after_quotes.Goals as goal

pub range_from-requires : goal.range_from-requires
range_from-requires c = λ some.
    let quotes = c.closing_quotes-quotes.ensures in
    let starts = ap (λ (t : Text). starts_with nat_eq c.args.text.now t) (sym quotes) ∙ ap (λ (t : Text). starts_with nat_eq t c.closing_quotes-quotes.result.now) (sym c.as_bytes.ensures.value) ∙ sym c.starts_with.ensures.value ∙ c.if-not-starts_with.false in
    subst (λ (t : Text). IsCharBoundary c.args.text.now (length t)) (sym quotes) (quotes_boundary (opening_view c.args.opening) c.args.text.now c.utf8.text starts)
