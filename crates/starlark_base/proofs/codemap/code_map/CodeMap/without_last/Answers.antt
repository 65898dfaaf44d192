use Rattle.std.proofs.Common.{◌≡◌, ◌-◌, get_or, arith, ap, sym, ◌∙◌}
use Rattle.starlark_base.proofs.ShortenedSpans.{without_last_yes, without_last_no, without_last_none}
use Rattle.starlark_base.proofs.codemap.code_map.CodeMap.without_last.Goals as goal
use Rattle.starlark_base.proofs.codemap.code_map.CodeMap.without_last.Goals.{else-begin-end-via-then-begin-end+else-bytes-end, else-begin-end-via-else-begin-end}

pub returns-then-bytes-end-clause-span : goal.returns-then-bytes-end-clause-span
returns-then-bytes-end-clause-span c =
    let text = c.args.self.now.source in
    let same = c.as_bytes-bytes.ensures.value ∙ c.source.ensures.source in
    let at : c.args.span.end - 1 ≡ c.get-end.result - 1 = omega arith in
    let h = without_last_yes text c.args.span c.args.byte (omega arith) c.requires.held.end.0 (ap (λ n. get_or text n 0) at ∙ ap (λ t. get_or t (c.get-end.result - 1) 0) (sym same) ∙ c.if-bytes-end.true) in
    cc

pub returns-else-begin-end-clause-span : goal.returns-else-begin-end-clause-span
returns-else-begin-end-clause-span c =
    let text = c.args.self.now.source in
    let same = c.as_bytes-bytes.ensures.value ∙ c.source.ensures.source in
    let at : c.args.span.end - 1 ≡ c.get-end.result - 1 = omega arith in
    elim c.else-begin-end.branch [
      | else-begin-end-via-then-begin-end+else-bytes-end w ↦ sym (without_last_no text c.args.span c.args.byte (omega arith) c.requires.held.end.0 (λ e. w.if-bytes-end.false (ap (λ t. get_or t (c.get-end.result - 1) 0) same ∙ ap (λ n. get_or text n 0) (sym at) ∙ e)))
      | else-begin-end-via-else-begin-end w ↦ sym (without_last_none text c.args.span c.args.byte (omega arith))
    ]
