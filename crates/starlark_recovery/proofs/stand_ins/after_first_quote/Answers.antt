use Rattle.std.proofs.Common.{◌≡◌, ◌+◌, ap, arith, drop, length, not, subst, sym, ◌∙◌}
use Rattle.std.proofs.lemmas.List.{drop_all}
use Rattle.std.specs.List.{prefix_len}
use Rattle.std.specs.Str.{IsCharBoundary}
use Rattle.starlark_grammar.specs.StandIns.{is_quote}
use Rattle.starlark_grammar.specs.Words.{Text}
use Rattle.starlark_recovery.proofs.LiteralBytes.{first_quote_boundary}
use Rattle.starlark_recovery.proofs.stand_ins.after_first_quote.Goals as goal
use Rattle.starlark_recovery.proofs.stand_ins.after_first_quote.Goals.{After-letters_len-len}

-- the letters before the quote
letters : (c : After-letters_len-len) → c.letters_len-len.result ≡ prefix_len (λ b. not (is_quote b)) c.args.literal.now
letters c = c.letters_len-len.ensures.value ∙ ap (prefix_len (λ b. not (is_quote b))) c.as_bytes.ensures.value

pub returns-then-len-literal : goal.returns-then-len-literal
returns-then-len-literal c =
    let len = letters (goal.at.returns-then-len-literal c).After-letters_len-len in
    sym (drop_all (1 + prefix_len (λ b. not (is_quote b)) c.args.literal.now) c.args.literal.now (omega (arith, len, c.if-len-literal.true)))

pub range_from-requires : goal.range_from-requires
range_from-requires c = λ some.
    let len = letters (goal.at.range_from-requires c).After-letters_len-len in
    let within = c.letters_len-len.ensures.within in
    let size = ap (λ (t : Text). length t) c.as_bytes.ensures.value in
    subst (λ n. IsCharBoundary c.args.literal.now (n + 1)) (sym len) (first_quote_boundary c.args.literal.now c.utf8.literal (omega (arith, len, within, size, c.if-len-literal.false)))

pub returns : goal.returns
returns c =
    let len = letters (goal.at.returns c).After-letters_len-len in
    let end : c.letters_len-len.result + 1 ≡ 1 + prefix_len (λ b. not (is_quote b)) c.args.literal.now = omega (arith, len) in
    c.range_from.ensures.value ∙ ap (λ n. drop n c.args.literal.now) end
