use Rattle.std.proofs.Common.{◌-◌, ap, drop, false, length, take, ◌∙◌}
use Rattle.starlark_grammar.specs.KeptLines.{literal_opening, literal_rest, rest_from}
use Rattle.starlark_grammar.specs.Tokens.{Opening}
use Rattle.starlark_grammar.specs.Words.{Text}
use Rattle.starlark_recovery.proofs.LiteralBytes.{left_is}
use Rattle.starlark_recovery.proofs.literal_rests.literal_rest.Goals as goal

pub returns-clause-value : goal.returns-clause-value
unfolding literal_rest
returns-clause-value c = λ at is.
    let bytes = c.as_bytes.result.now in
    c.rest_of.ensures.value
    ∙ ap (λ (opening : Opening). rest_from opening false (take (length bytes - c.args.begin) (drop c.args.begin bytes))) is
    ∙ ap (rest_from (literal_opening at c.args.text.now c.args.begin) false) (left_is c.args.begin bytes)
    ∙ ap (λ (text : Text). rest_from (literal_opening at c.args.text.now c.args.begin) false (drop c.args.begin text)) c.as_bytes.ensures.value
