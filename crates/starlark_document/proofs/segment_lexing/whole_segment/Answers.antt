use Rattle.std.proofs.Common.{length}
use Rattle.starlark_grammar.specs.ClosedTexts.{IsClosed}
use Rattle.starlark_document.proofs.FirstSegments.{empty_closed, line_closed, unended, whole_last, whole_open, whole_uncut, zero_of}
use Rattle.starlark_document.proofs.segment_lexing.whole_segment.Goals as goal
use Rattle.starlark_document.proofs.segment_lexing.whole_segment.Goals.{then-is_empty-via-then-is_empty, then-is_empty-via-else-is_empty+then-front-text}

pub returns-then-is_last-clause-segment : goal.returns-then-is_last-clause-segment
returns-then-is_last-clause-segment c =
    let found = c.in_ok-segment.ensures in
    rw c.if-is_last.true (whole_last c.args.text.now c.args.front _ c.requires.front found.text found.len found.lines found.lexemes found.faults)

pub returns-then-is_empty-clause-segment : goal.returns-then-is_empty-clause-segment
returns-then-is_empty-clause-segment c =
    let found = c.in_ok-segment-2.ensures in
    let text = c.args.text.now in
    let closed : IsClosed text = elim c.then-is_empty.branch [
      | then-is_empty-via-then-is_empty w ↦ empty_closed text (zero_of (length text) w.if-is_empty.ensures)
      | then-is_empty-via-else-is_empty+then-front-text w ↦ line_closed text c.args.front c.requires.front w.if-front-text.true
    ] in
    rw c.if-is_last.false (whole_open text c.args.front c.without_closing.result _ c.requires.front closed c.without_closing.ensures.lexemes c.without_closing.ensures.faults found.text found.len found.lines found.lexemes found.faults)

pub returns-clause-unended : goal.returns-clause-unended
returns-clause-unended c = λ none. unended c.args.text.now c.args.front c.requires.front c.if-front-text.false

pub returns-then-is_last-clause-sized : goal.returns-then-is_last-clause-sized
returns-then-is_last-clause-sized c = whole_uncut c.args.text.now c.args.front _ c.requires.front c.requires.uncut c.in_ok-segment.ensures.text c.in_ok-segment.ensures.len

pub returns-then-is_empty-clause-sized : goal.returns-then-is_empty-clause-sized
returns-then-is_empty-clause-sized c = whole_uncut c.args.text.now c.args.front _ c.requires.front c.requires.uncut c.in_ok-segment-2.ensures.text c.in_ok-segment-2.ensures.len
