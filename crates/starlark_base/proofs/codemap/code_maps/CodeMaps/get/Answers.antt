use Rattle.std.proofs.Common.{sym, ap, ◌∙◌}
use Rattle.std.specs.FinMap as map
use Rattle.starlark_base.proofs.Numbered.{seen}
use Rattle.starlark_base.proofs.codemap.code_maps.CodeMaps.get.Goals as goal

pub returns : goal.returns
returns c =
    c.get.ensures.value ∙ sym (seen c.args.id c.self.inside.codemaps.entries) ∙ ap (λ m. map.get m c.args.id) c.self.view_is
