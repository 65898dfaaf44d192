use Rattle.std.proofs.Common.{◌≡◌, ◌-◌, ◌≤◌, ◌∙◌, ap, sym, drop, take, length, arith}
use Rattle.std.proofs.lemmas.List.{drop-drop, length-drop, take_all}
use Rattle.std.specs.Int.{trailing_zeros, w64}
use Rattle.std.specs.List.{prefix_len}
use Rattle.starlark_grammar.specs.Words.{is_in_name}
use Rattle.starlark_words.proofs.LaneRuns.{run_ends, run_goes_on, run_within}
use Rattle.starlark_words.proofs.names.name_len.Goals as goal

pub returns-then-len-lt-ALONE-clause-value : goal.returns-then-len-lt-ALONE-clause-value
returns-then-len-lt-ALONE-clause-value c =
    let counted = c.short_name_len-len.ensures.value in
    let less = c.if-len-lt-ALONE.true in
    counted ∙ run_ends is_in_name 4 c.args.text.now (omega (arith, c.if-text.false)) (omega (arith, counted, less))

pub returns-then-ends-ne0-clause-value : goal.returns-then-ends-ne0-clause-value
returns-then-ends-ne0-clause-value c =
    let long = c.if-text.false in
    let counted = c.short_name_len-len.ensures.value in
    let within = run_within is_in_name 4 c.args.text.now (omega (arith, long)) in
    let whole : c.short_name_len-len.result ≡ 4 = omega (arith, counted, within, c.if-len-lt-ALONE.false) in
    let on = run_goes_on is_in_name 4 c.args.text.now (omega (arith, long)) (sym counted ∙ whole) in
    let rest = take_all (length c.args.text.now - 4) (drop 4 c.args.text.now) (omega (arith, length-drop 4 c.args.text.now)) in
    let found = c.name_ends-ends.ensures.some (omega (arith, c.if-ends-ne0.true)) in
    let more : trailing_zeros w64 c.name_ends-ends.result ≡ prefix_len is_in_name (take 16 (drop 4 c.args.text.now)) = found.0 ∙ ap (λ l. prefix_len is_in_name (take 16 l)) rest in
    let ends = run_ends is_in_name 16 (drop 4 c.args.text.now) (omega (arith, long, length-drop 4 c.args.text.now)) (omega (arith, more, found.1)) in
    omega (arith, on, more, ends)

pub returns-clause-value : goal.returns-clause-value
returns-clause-value c =
    let long = c.if-text.false in
    let counted = c.short_name_len-len.ensures.value in
    let within = run_within is_in_name 4 c.args.text.now (omega (arith, long)) in
    let whole : c.short_name_len-len.result ≡ 4 = omega (arith, counted, within, c.if-len-lt-ALONE.false) in
    let on = run_goes_on is_in_name 4 c.args.text.now (omega (arith, long)) (sym counted ∙ whole) in
    let room : 16 ≤ length (drop 4 c.args.text.now) = omega (arith, long, length-drop 4 c.args.text.now) in
    let rest = take_all (length c.args.text.now - 4) (drop 4 c.args.text.now) (omega (arith, length-drop 4 c.args.text.now)) in
    let full : prefix_len is_in_name (take 16 (drop 4 c.args.text.now)) ≡ 16 = ap (λ l. prefix_len is_in_name (take 16 l)) (sym rest) ∙ c.name_ends-ends.ensures.none (omega (arith, c.if-ends-ne0.false)) in
    let further = run_goes_on is_in_name 16 (drop 4 c.args.text.now) room full in
    let remainder : drop 16 (drop 4 c.args.text.now) ≡ drop 20 c.args.text.now = drop-drop 16 4 c.args.text.now in
    let last = take_all (length c.args.text.now - 20) (drop 20 c.args.text.now) (omega (arith, length-drop 20 c.args.text.now)) in
    omega (arith, on, further, ap (prefix_len is_in_name) remainder, c.last_name_len.ensures.value, ap (prefix_len is_in_name) last)
