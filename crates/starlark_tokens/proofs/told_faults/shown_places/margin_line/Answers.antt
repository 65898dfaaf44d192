use Rattle.std.proofs.Common.{◌∙◌, ap, drop}
use Rattle.std.proofs.lemmas.List.{take_rest}
use Rattle.starlark_recovery.proofs.RestartPlaces.{after_line_end}
use Rattle.starlark_tokens.proofs.told_faults.shown_places.margin_line.Goals as goal

pub range_from-requires : goal.range_from-requires
range_from-requires c some =
    let rest = take_rest c.as_bytes.result.now c.args.at ∙ ap (drop c.args.at) c.as_bytes.ensures.value in
    after_line_end c.args.text.now _ c.args.at c.line_end_len.result c.utf8.text c.requires rest c.line_end_len.ensures.within c.line_end_len.ensures.feed
