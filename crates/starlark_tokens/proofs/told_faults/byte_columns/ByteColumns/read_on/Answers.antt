use Rattle.std.proofs.Common.{◌∷◌, [], subst, sym}
use Rattle.std.proofs.lemmas.List.Elements.{All-append}
use Rattle.std.specs.List.{All}
use Rattle.starlark_tokens.proofs.OneElement.{all_one}
use Rattle.starlark_tokens.specs.Inner.ByteColumns.{IsColumn}
use Rattle.starlark_tokens.proofs.told_faults.byte_columns.ByteColumns.read_on.Goals as goal

pub returns-clause-known : goal.returns-clause-known
returns-clause-known c =
    let is = IsColumn c.args.self.now.text.now in
    let old = c.args.self.now.known.items in
    let next = c.next-next.result in
    record {
      utf8 = c.requires.known.utf8;
      each = subst (All is) (sym c.in_ok-push.ensures.items) (All-append is old (next ∷ []) c.requires.known.each (all_one is next c.next-next.ensures));
    }
