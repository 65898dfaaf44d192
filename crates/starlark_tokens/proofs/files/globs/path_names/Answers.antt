use Rattle.std.proofs.Common.{◌∙◌, ap, codes, filter, map, not, rules}
use Rattle.std.proofs.lemmas.List.Elements.{filter_from_retain}
use Rattle.starlark_tokens.proofs.GlobParts.{filter_made}
use Rattle.starlark_tokens.specs.CommandLine.CommandWords.{is_same}
use Rattle.starlark_tokens.proofs.files.globs.path_names.Goals as goal

pub returns : goal.returns
returns c =
    let kept = filter_from_retain _ (λ name. not (is_same name.items (codes "."))) (λ f x b g call. search rules) _ _ _ c.retain.ensures.filtered in
    ap (map (λ name. name.items)) kept ∙ filter_made (λ name. name.items) (λ name. not (is_same name (codes "."))) c.in_ok-names.names.items ∙ ap (filter (λ name. not (is_same name (codes ".")))) c.in_ok-names.ensures
