use Rattle.std.proofs.Common.{◌≡◌, ◌∙◌, map}
use Rattle.starlark_tokens.proofs.GlobParts.{is_fit_of}
use Rattle.starlark_tokens.specs.Files.Globs.{fits_names, is_anchored, names_for, path_names}
use Rattle.starlark_tokens.proofs.files.globs.stands_for.Goals as goal

pub returns : goal.returns
returns c =
    let fit = is_fit_of (fits_names (map (λ glob. glob.items) c.as_slice-2.result.now)) (map (λ name. name.items) c.names_for-names.result.now) _ c.names_compared.ensures in
    let all : c.is_fit.result ≡ fits_names (path_names c.args.glob.now) (names_for (is_anchored c.args.glob.now) (path_names c.args.path.now)) =
    c.is_fit.ensures ∙ (rw (c.as_slice-2.ensures.value, c.in_ok-globs.ensures, c.names_for-names.ensures, c.is_anchored.ensures, c.as_slice.ensures.value, c.in_ok-names.ensures) at fit) in
    rw (← c.if-not-may_stand.ensures) all
