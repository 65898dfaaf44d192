use Rattle.std.proofs.Common.{◌-◌, refl, subst, sym}
use Rattle.starlark_c.specs.LastCuts.{HasNoCut}
use Rattle.starlark_c.proofs.LastStops.{uncut_so_far}
use Rattle.starlark_grammar.specs.Words.{Text}
use Rattle.starlark_c.proofs.filling.overflow.Goals as goal

pub count_first_piece-requires-clause-uncut : goal.count_first_piece-requires-clause-uncut
count_first_piece-requires-clause-uncut c =
    let stop = c.args.progress.stop in
    subst (λ (t : Text). HasNoCut stop.is_front t (c.args.lexer.now.yielded_count - 1)) (sym c.requires.same) (uncut_so_far stop.is_front c.args.text.now (c.args.lexer.now.yielded_count - 1) stop refl c.in_default.ensures.none c.requires.last)
