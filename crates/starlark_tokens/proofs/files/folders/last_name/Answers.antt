use Rattle.std.proofs.Common.{◌∙◌, ap, arith, drop}
use Rattle.std.proofs.lemmas.List.{take_rest}
use Rattle.starlark_tokens.proofs.files.folders.last_name.Goals as goal

pub returns : goal.returns
returns c =
    take_rest c.args.path.now c.saturating_sub.result
    ∙ ap (λ n. drop n c.args.path.now) (omega (arith, c.saturating_sub.ensures, c.last_name_len.ensures))
