use Rattle.std.proofs.Common.{◌≡◌, ◌-◌, arith, drop, length, refl, take}
use Rattle.std.proofs.lemmas.List.{length-drop, length-map, take_all}
use Rattle.std.specs.List.{drop-map}
use Rattle.starlark_tokens.proofs.files.globs.last_name.Goals as goal

pub returns : goal.returns
returns c =
    let names = c.args.names.now in
    let n = c.saturating_sub.result in
    let len = length-drop n names in
    let whole : take (length names - n) (drop n names) ≡ drop n names = take_all (length names - n) (drop n names) (omega (arith, len)) in
    rw (whole, length-map names (λ name. name.items), ← c.saturating_sub.ensures, drop-map (λ name. name.items) n names) refl
