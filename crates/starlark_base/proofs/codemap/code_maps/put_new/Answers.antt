use Rattle.std.proofs.Common.{◌≡◌, false, eqb, is_some, rules}
use Rattle.std.specs.Map.{lookup}
use Rattle.starlark_base.proofs.Numbered.{put_where_absent}
use Rattle.starlark_base.proofs.codemap.code_maps.put_new.Goals as goal

pub returns-in_ok-insert-clause-ok : goal.returns-in_ok-insert-clause-ok
returns-in_ok-insert-clause-ok c q =
    let es = c.args.codemaps.now.entries in
    let absent : is_some (lookup (eqb c.args.id) es) ≡ false = search rules in
    put_where_absent es c.insert.new.self.entries c.args.id q c.args.codemap absent (c.in_ok-insert.ensures.updates.0 q)
