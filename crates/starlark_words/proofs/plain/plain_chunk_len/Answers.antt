use Rattle.std.proofs.Common.{◌∙◌, ap, arith, drop, length, take}
use Rattle.std.proofs.lemmas.List.{take_rest}
use Rattle.starlark_grammar.specs.Inner.Openings.{opening_view}
use Rattle.starlark_words.specs.Inner.LiteralViews.{fstring_literal}
use Rattle.starlark_words.proofs.LiteralBodies.PlainBodies.{known_run, plain_chunk}
use Rattle.starlark_words.proofs.plain.plain_chunk_len.Goals as goal

pub returns-clause-plain : goal.returns-clause-plain
returns-clause-plain c =
    let len = length c.first_run-len.result.now in
    plain_chunk (opening_view c.args.opening) c.args.text.now c.first_run-len.result.now _ c.utf8.text c.first_run-len.ensures.value c.first_run-len.ensures.boundary
    (c.in-Some.ensures (drop len c.args.text.now) (c.uncounted_front.ensures ∙ ap (take 3) (take_rest c.as_bytes.result.now len ∙ ap (drop len) c.as_bytes.ensures.value)))

pub returns-in_default-clause-other : goal.returns-in_default-clause-other
returns-in_default-clause-other c =
    let read = c.first_run-len.ensures.reads in
    (known_run (fstring_literal (opening_view c.args.opening)) c.args.text.now c.first_run-len.result.now c.first_run-len.ensures.value c.first_run-len.ensures.boundary, (omega (arith, read.0), omega (arith, read.1)))

pub returns-clause-run : goal.returns-clause-run
returns-clause-run c = known_run (fstring_literal (opening_view c.args.opening)) c.args.text.now c.first_run-len.result.now c.first_run-len.ensures.value c.first_run-len.ensures.boundary
