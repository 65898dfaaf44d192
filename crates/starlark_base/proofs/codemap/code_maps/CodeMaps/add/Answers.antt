use Rattle.std.proofs.Common.{◌≡◌, true, false, refl, eqb, is_some, sym, ap, ◌∙◌, rules}
use Rattle.std.specs.Map.{lookup}
use Rattle.starlark_base.specs.SourceFiles.{joined, only}
use Rattle.starlark_base.proofs.Numbered.{added_present, added_new, none_at, put_where_absent}
use Rattle.starlark_base.proofs.codemap.code_maps.CodeMaps.add.Goals as goal
use Rattle.starlark_base.proofs.codemap.code_maps.CodeMaps.add.Goals.{After-dupe}

pub returns-then-contains_key-clause-ok : goal.returns-then-contains_key-clause-ok
returns-then-contains_key-clause-ok c =
    let es = c.self.inside.codemaps.entries in
    let present : is_some (lookup (eqb c.id-id.result) es) ≡ true = search rules in
    sym c.self.view_is ∙ added_present es c.args.codemap.now c.id-id.result c.id-id.ensures present ∙ ap (λ m. joined m (only c.args.codemap.now)) c.self.view_is

-- no code map has the number
absent : (c : After-dupe) → is_some (lookup (eqb c.id-id.result) c.self.inside.codemaps.entries) ≡ false
absent c = search rules

pub returns-clause-ok : goal.returns-clause-ok
returns-clause-ok c =
    let es = c.self.inside.codemaps.entries in
    let ns = c.insert.new.self.entries in
    let file = c.args.codemap.now in
    let shared = c.in_ok-dupe.field-0 in
    let none = absent (goal.at.returns-clause-ok c).After-dupe in
    added_new es es ns file shared c.id-id.result (λ q. refl) c.in_ok-dupe.ensures c.id-id.ensures (λ q. put_where_absent es ns c.id-id.result q shared none (c.in_ok-insert.ensures.updates.0 q)) ∙ ap (λ m. joined m (only file)) c.self.view_is

pub returns-in_err-dupe-clause-wanted : goal.returns-in_err-dupe-clause-wanted
returns-in_err-dupe-clause-wanted c =
    let none = none_at c.self.inside.codemaps.entries c.args.self.now c.id-id.result c.args.codemap.now.id c.id-id.ensures c.self.view_is (absent (goal.at.returns-in_err-dupe-clause-wanted c).After-dupe) in
    search (rules, none)

pub returns-in_err-insert-clause-wanted : goal.returns-in_err-insert-clause-wanted
returns-in_err-insert-clause-wanted c =
    let none = none_at c.self.inside.codemaps.entries c.args.self.now c.id-id.result c.args.codemap.now.id c.id-id.ensures c.self.view_is (absent (goal.at.returns-in_err-insert-clause-wanted c).After-dupe) in
    search (rules, none)
