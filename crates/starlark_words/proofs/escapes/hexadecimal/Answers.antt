use Rattle.std.proofs.Common.{◌≡◌, ◌+◌, ◌≤◌, ◌∙◌, take, arith, rules}
use Rattle.std.proofs.lemmas.List.{take-take}
use Rattle.std.specs.Char.{is_ascii_hexdigit}
use Rattle.std.specs.List.{prefix_len}
use Rattle.starlark_words.proofs.LiteralBodies.DigitRuns.{hex_edge, hex_same, run_short}
use Rattle.starlark_words.proofs.escapes.hexadecimal.Goals as goal
use Rattle.starlark_words.proofs.escapes.hexadecimal.Goals.{After-digits-len}

len_is : (c : After-digits-len) → c.digits-len.result.0 ≡ prefix_len is_ascii_hexdigit (take c.args.wanted c.args.text.now)
len_is c = rw (c.uncounted_front.ensures, c.as_bytes.ensures.value) at (c.digits-len.ensures.len ∙ hex_same c.uncounted_front.result.now)

pub range_from-requires : goal.range_from-requires
range_from-requires c = λ some. rw (len_is (goal.at.range_from-requires c).After-digits-len) (hex_edge c.args.wanted c.args.text.now c.utf8.text)

pub broken-requires : goal.broken-requires
broken-requires c = omega (arith, len_is (goal.at.broken-requires c).After-digits-len, run_short is_ascii_hexdigit c.args.wanted c.args.text.now, c.requires.most)

pub overflow_add-len : goal.overflow_add-len
overflow_add-len c =
    let few : 2 + c.digits-len.result.0 ≤ 10 = omega (arith, len_is (goal.at.overflow_add-len c).After-digits-len, run_short is_ascii_hexdigit c.args.wanted c.args.text.now, c.requires.most) in
    search (rules, few)

pub returns-then-len-wanted-clause-value : goal.returns-then-len-wanted-clause-value
returns-then-len-wanted-clause-value c = search (rules, len_is (goal.at.returns-then-len-wanted-clause-value c).After-digits-len)

pub returns-clause-value : goal.returns-clause-value
returns-clause-value c =
    let len = len_is (goal.at.returns-clause-value c).After-digits-len in
    let short = run_short is_ascii_hexdigit c.args.wanted c.args.text.now in
    let taken = rw (c.uncounted_front.ensures, c.as_bytes.ensures.value, take-take c.digits-len.result.0 c.args.wanted c.args.text.now (omega (arith, len, short))) at c.digits-len.ensures.number in
    search (rules, len, taken)
