use Rattle.std.proofs.Common.{◌-◌, ap, drop, take, ◌∙◌}
use Rattle.starlark_grammar.specs.KeptLines.{literal_opening, raw_opening}
use Rattle.starlark_grammar.specs.Words.{Text}
use Rattle.starlark_recovery.proofs.LiteralBytes.{front_is}
use Rattle.starlark_recovery.proofs.literal_rests.literal_opening.Goals as goal

pub returns : goal.returns
returns c =
    let bytes = c.as_bytes.result.now in
    let part = take (c.args.begin - c.args.at) (drop c.args.at bytes) in
    c.raw_opening.ensures ∙ ap (λ n. raw_opening (take n part)) c.min.ensures ∙ ap raw_opening (front_is 5 c.args.at c.args.begin bytes c.requires.order)
    ∙ ap (λ (text : Text). literal_opening c.args.at text c.args.begin) c.as_bytes.ensures.value
