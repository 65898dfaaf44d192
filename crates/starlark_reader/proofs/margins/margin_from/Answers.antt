use Rattle.std.proofs.Common.{◌≤◌, ◌<◌, ◌+◌, ◌∙◌, ap, arith, drop, sym, rules}
use Rattle.std.proofs.lemmas.Bool.{ne_eqb}
use Rattle.std.proofs.lemmas.List.{take_rest}
use Rattle.starlark_reader.proofs.TakenMargins.MarginLines.{ArePassed, comment_some, feed_value, front_passed, last_passed, one_passed, spaces_after, spaces_before}
use Rattle.starlark_reader.proofs.margins.margin_from.Goals as goal

pub blanks_of-margin-requires-clause-known : goal.blanks_of-margin-requires-clause-known
blanks_of-margin-requires-clause-known c =
    rw (take_rest, c.as_bytes-bytes.ensures.value) (omega (arith, c.saturating_sub.ensures, spaces_after c.args.text.now c.args.spaces c.loop-at.at c.requires))

pub returns-then-next-ne35-clause-margin : goal.returns-then-next-ne35-clause-margin
returns-then-next-ne35-clause-margin c =
    let blanks = c.blanks_of-margin in
    last_passed c.args.text.now _ _ c.loop-at.at blanks.result _ c.loop-at.invariant.passed
    (take_rest c.as_bytes-bytes.result.now c.loop-at.at ∙ ap (drop c.loop-at.at) c.as_bytes-bytes.ensures.value) blanks.ensures.value (take_rest _ blanks.result.blanks)
    (c.first_or_lf-next.ensures.comment ∙ ne_eqb _ 35 c.if-next-ne35.true) (sym c.first_or_lf-next.ensures.content)

pub loop-at-preserved-then-begins_comment : goal.loop-at-preserved-then-begins_comment
loop-at-preserved-then-begins_comment c =
    let passed : ArePassed c.args.text.now (c.loop-at.at + c.min-at.result) = search (rules, front_passed, take_rest, comment_some, feed_value) in
    let before : c.args.spaces ≤ c.loop-at.at = search (rules, spaces_before, take_rest) in
    let some : 0 < c.front_len-feed.result = search (rules, comment_some, feed_value) in
    let counted = c.front_len-feed.ensures.reads in
    let all = c.loop-at.invariant.reads in
    record {
      passed = passed;
      reads = (omega (arith, before, some, counted.0, all.0, c.min-at.ensures), omega (arith, before, some, counted.1, all.1, c.min-at.ensures));
    }

pub loop-at-preserved : goal.loop-at-preserved
loop-at-preserved c = search (rules, one_passed, take_rest, comment_some, feed_value)
