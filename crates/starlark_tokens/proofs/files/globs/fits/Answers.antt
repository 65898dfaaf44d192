use Rattle.std.proofs.Common.{◌∙◌}
use Rattle.starlark_tokens.proofs.GlobParts.{is_fit_of}
use Rattle.starlark_tokens.specs.Files.Globs.{fits}
use Rattle.starlark_tokens.proofs.files.globs.fits.Goals as goal

pub returns : goal.returns
returns c = c.is_fit.ensures ∙ is_fit_of (fits c.args.glob.now) c.args.name.now _ c.compared.ensures
