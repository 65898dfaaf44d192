use Rattle.std.proofs.Common.{◌≡◌, ◌+◌, arith, ap, ◌∙◌}
use Rattle.starlark_base.specs.Spans.{ByteSpan}
use Rattle.starlark_base.specs.Lines.{line_begin}
use Rattle.starlark_base.proofs.LineFeeds.{begins_rise, last_line_end}
use Rattle.starlark_base.proofs.codemap.code_map.CodeMap.line_span.Goals as goal
use Rattle.starlark_base.proofs.codemap.code_map.CodeMap.line_span.Goals.{then-line-count, else-line-count}

end_is : (c : goal.Joined-line-count) → c.if-line-count.end ≡ line_begin c.args.self.now.source (c.args.line + 1)
end_is c =
    elim c.if-line-count.branch [
      | then-line-count w ↦ w.end-is ∙ w.line_start-end.ensures.start
      | else-line-count w ↦ let text = c.args.self.now.source in let past = last_line_end text (c.args.line + 1) (omega arith) in let whole = ap (λ (span : ByteSpan). span.end) w.full_span.ensures.span in cc
    ]

pub new-requires : goal.new-requires
new-requires c =
    omega (arith, end_is c, c.line_start-begin.ensures.start, begins_rise c.args.self.now.source c.args.line (c.args.line + 1) (omega arith))

pub returns-clause-span : goal.returns-clause-span
returns-clause-span c = let e = end_is c.before in cc
