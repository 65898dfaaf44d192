use Rattle.std.proofs.Common.{ap, ◌∙◌, rules, ◌≡◌, [], length, sym}
use Rattle.std.proofs.lemmas.List.{nil_from_length}
use Rattle.std.specs.FinMap as map
use Rattle.starlark_base.specs.SourceFiles.{joined}
use Rattle.starlark_base.proofs.Numbered.{added_all, grows_as, none_added}
use Rattle.starlark_base.proofs.codemap.code_maps.CodeMaps.add_all.Goals as goal

pub returns-clause-ok : goal.returns-clause-ok
returns-clause-ok c =
    let es = c.self.inside.codemaps.entries in
    let os = c.codemaps.inside.codemaps.entries in
    let all = added_all es c.reserve.new.self.entries c.put_all_new.new.codemaps.entries os c.in_ok-new.new.items c.reserve.ensures.entries.2 c.in_ok-new.ensures.new c.put_all_new.ensures.puts ∙ ap (λ m. joined m (map.from_entries os)) c.self.view_is ∙ ap (joined c.args.self.now) c.codemaps.view_is in
    search rules

pub returns-then-is_empty-clause-ok : goal.returns-then-is_empty-clause-ok
returns-then-is_empty-clause-ok c =
    let es = c.self.inside.codemaps.entries in
    let os = c.codemaps.inside.codemaps.entries in
    let zero : length c.in_ok-new.new.items ≡ 0 = search rules in
    let none = nil_from_length c.in_ok-new.new.items zero in
    sym c.self.view_is ∙ none_added es os c.in_ok-new.new.items c.in_ok-new.ensures.new none ∙ ap (λ m. joined m (map.from_entries os)) c.self.view_is ∙ ap (joined c.args.self.now) c.codemaps.view_is

pub returns-in_err-new-clause-wanted : goal.returns-in_err-new-clause-wanted
returns-in_err-new-clause-wanted c =
    let more = grows_as c.self.inside.codemaps.entries c.codemaps.inside.codemaps.entries c.args.self.now c.args.codemaps.now c.self.view_is c.codemaps.view_is c.in_err-new.ensures.wanted in
    search (rules, more)

pub returns-in_err-reserve-clause-wanted : goal.returns-in_err-reserve-clause-wanted
returns-in_err-reserve-clause-wanted c =
    let some : c.in_ok-new.new.items ≡ [] → ⊥ = λ none. search (rules, none) in
    let more = grows_as c.self.inside.codemaps.entries c.codemaps.inside.codemaps.entries c.args.self.now c.args.codemaps.now c.self.view_is c.codemaps.view_is (λ none. some (c.in_ok-new.ensures.new ∙ none)) in
    search (rules, more)
