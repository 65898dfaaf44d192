use Rattle.std.proofs.Common.{◌≡◌, ◌∙◌, true, false, drop, sym, Some, None}
use Rattle.std.proofs.Math.Nat.{sub-zero}
use Rattle.std.specs.List.{slice_get}
use Rattle.starlark_grammar.specs.Items.{drops_backslash}
use Rattle.starlark_words.proofs.LiteralBodies.FirstBytes.{raw_end, raw_dropped, raw_kept, cut_after}
use Rattle.starlark_words.proofs.PeekedBytes.{first_of}
use Rattle.starlark_words.proofs.items.raw_pair.Goals as goal
use Rattle.starlark_words.proofs.items.raw_pair.Goals.{In-Some}

pub returns-in_default-clause-value : goal.returns-in_default-clause-value
returns-in_default-clause-value c =
    let remainder = c.after_first-remainder.ensures in
    let bytes = c.as_bytes.ensures.value in
    let end : slice_get (drop 1 c.args.text.now) 0 ≡ None = first_of _ _ _ (bytes ∙ remainder) c.in_default.ensures.byte in
    sym (raw_end c.args.literal.kind c.args.literal.opening.quote (drop 1 c.args.text.now) end)

first_is : (c : In-Some) → slice_get (drop 1 c.args.text.now) 0 ≡ Some c.in-Some.first
first_is c = first_of _ _ _ (c.as_bytes.ensures.value ∙ c.after_first-remainder.ensures) c.in-Some.ensures.byte

pub returns-then-drops_backslash-clause-value : goal.returns-then-drops_backslash-clause-value
returns-then-drops_backslash-clause-value c =
    let first = first_is (goal.at.returns-then-drops_backslash-clause-value c).In-Some in
    let drops : drops_backslash c.args.literal.kind c.args.literal.opening.quote c.in-Some.first ≡ true = sym c.drops_backslash.ensures ∙ c.if-drops_backslash.true in
    rw (c.part.ensures.value, c.range.ensures.value, sub-zero, c.character_len-character.ensures.character, c.character_len-character.ensures.whole, c.after_first-remainder.ensures) (sym (raw_dropped c.args.literal.kind c.args.literal.opening.quote (drop 1 c.args.text.now) c.in-Some.first first drops))

pub returns-else-drops_backslash-clause-value : goal.returns-else-drops_backslash-clause-value
returns-else-drops_backslash-clause-value c =
    let first = first_is (goal.at.returns-else-drops_backslash-clause-value c).In-Some in
    let keeps : drops_backslash c.args.literal.kind c.args.literal.opening.quote c.in-Some.first ≡ false = sym c.drops_backslash.ensures ∙ c.if-drops_backslash.false in
    rw (c.part-else-drops_backslash.ensures.value, c.range-else-drops_backslash.ensures.value, sub-zero, cut_after c.args.text.now (drop 1 c.args.text.now) c.character_len-character.result c.requires, ← c.after_first-remainder.ensures, c.character_len-character.ensures.character, c.character_len-character.ensures.whole, c.after_first-remainder.ensures) (sym (raw_kept c.args.literal.kind c.args.literal.opening.quote (drop 1 c.args.text.now) c.in-Some.first first keeps))
