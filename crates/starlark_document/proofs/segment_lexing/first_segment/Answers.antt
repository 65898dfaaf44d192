use Rattle.std.proofs.Common.{Bool, arith, subst}
use Rattle.starlark_document.proofs.FirstSegments.{cut_first, cut_uncut, plain_below}
use Rattle.starlark_document.proofs.FrontItems.{plain_of}
use Rattle.starlark_document.specs.Inner.LexedFronts.{IsCutFront, IsTakenFront}
use Rattle.starlark_document.proofs.segment_lexing.first_segment.Goals as goal

pub returns-then-is_cut-clause-segment : goal.returns-then-is_cut-clause-segment
returns-then-is_cut-clause-segment c =
    let front : IsCutFront c.args.text.now c.args.front = subst (λ (is_cut : Bool). IsTakenFront c.args.text.now is_cut c.args.front) c.if-is_cut.true c.requires.front in
    let cut = c.in_ok-cut_segment.ensures in
    cut_first c.args.text.now c.args.is_last front.items front.more c.args.front _ front.all front.taken front.cut front.ends cut.text cut.len cut.lines cut.lexemes cut.faults

pub returns-then-is_cut-clause-cut : goal.returns-then-is_cut-clause-cut
returns-then-is_cut-clause-cut c = λ is_cut.
    let front : IsCutFront c.args.text.now c.args.front = subst (λ (is : Bool). IsTakenFront c.args.text.now is c.args.front) c.if-is_cut.true c.requires.front in
    let below = plain_below c.args.text.now c.args.front.line_end (plain_of c.args.front.least_len c.args.text.now c.args.front.line_end (front.taken.cut front.cut).may) in
    omega (arith, below, c.in_ok-cut_segment.ensures.len)

pub returns-then-is_cut-clause-sized : goal.returns-then-is_cut-clause-sized
returns-then-is_cut-clause-sized c =
    let front : IsCutFront c.args.text.now c.args.front = subst (λ (is_cut : Bool). IsTakenFront c.args.text.now is_cut c.args.front) c.if-is_cut.true c.requires.front in
    cut_uncut c.args.text.now front.items front.more c.args.front _ front.all front.taken front.cut front.ends c.in_ok-cut_segment.ensures.text c.in_ok-cut_segment.ensures.len
