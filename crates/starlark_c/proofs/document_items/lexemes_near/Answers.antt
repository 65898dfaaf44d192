use Rattle.std.proofs.Common.{ap, arith, subst, sym, ◌∙◌}
use Rattle.std.proofs.lemmas.Bool.{leb-true}
use Rattle.std.specs.List.{prefix_len}
use Rattle.std.specs.Prelude.{◌-◌, filter}
use Rattle.starlark_c.specs.DocumentItems.{touches}
use Rattle.starlark_c.specs.Inner.DocumentItems.{AreWithin}
use Rattle.starlark_c.proofs.TouchingItems.{dropped_within, lexemes_within, touching_rest}
use Rattle.starlark_document.specs.Documents.{ends_by, lexemes_of}
use Rattle.starlark_c.proofs.document_items.lexemes_near.Goals as goal

pub returns-then-from-eq0-clause-within : goal.returns-then-from-eq0-clause-within
returns-then-from-eq0-clause-within c = subst AreWithin (sym c.lexemes.ensures) (lexemes_within c.args.document.now.text c.requires)

pub returns-else-from-eq0-clause-touching : goal.returns-else-from-eq0-clause-touching
returns-else-from-eq0-clause-touching c to =
    let from = c.args.from in
    ap (filter (touches from to)) c.lexemes_from.ensures
    ∙ touching_rest from to (ends_by (from - 1)) (lexemes_of c.args.document.now.text) (λ x ends. omega (arith, leb-true x.end (from - 1) ends, c.if-from-eq0.false))

pub returns-else-from-eq0-clause-within : goal.returns-else-from-eq0-clause-within
returns-else-from-eq0-clause-within c =
    let all = lexemes_of c.args.document.now.text in
    subst AreWithin (sym c.lexemes_from.ensures) (dropped_within (prefix_len (ends_by (c.args.from - 1)) all) all (lexemes_within c.args.document.now.text c.requires))
