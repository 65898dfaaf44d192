use Rattle.std.proofs.Common.{◌≡◌, ◌∙◌, true, false, refl, sym, ap, Some, None}
use Rattle.std.proofs.Math.Nat.{sub-zero}
use Rattle.std.specs.List.{slice_get}
use Rattle.starlark_grammar.specs.Items.{is_brace}
use Rattle.starlark_words.specs.Inner.LiteralViews.{literal_view}
use Rattle.starlark_words.proofs.LiteralBodies.FirstBytes.{closes, ends_line, at_end, at_closing, at_line, at_return, at_raw, at_escape, at_brace, at_plain}
use Rattle.starlark_words.proofs.PeekedBytes.{at_front}
use Rattle.starlark_words.proofs.LiteralBodies.ReadFronts.{closes_by_three}
use Rattle.starlark_words.proofs.items.found_at.Goals as goal

pub returns-in_default-clause-value : goal.returns-in_default-clause-value
returns-in_default-clause-value c =
    let end : slice_get c.args.text.now 0 ≡ None = at_front _ _ _ _ c.requires refl c.in_default.ensures.value in
    sym (at_end (literal_view c.args.literal) c.args.text.now end)

pub returns-then-closes-clause-value : goal.returns-then-closes-clause-value
returns-then-closes-clause-value c =
    let first : slice_get c.args.text.now 0 ≡ Some c.in-Some.first.now = at_front _ _ _ _ c.requires refl c.in-Some.ensures.value in
    let same : c.closes.result ≡ closes (literal_view c.args.literal) c.args.text.now = c.closes.ensures ∙ ap (closes (literal_view c.args.literal)) c.requires ∙ closes_by_three (literal_view c.args.literal) c.args.text.now in
    sym (at_closing (literal_view c.args.literal) c.args.text.now c.in-Some.first.now first (sym same ∙ c.if-closes.true))

pub returns-then-ends_line-clause-value : goal.returns-then-ends_line-clause-value
returns-then-ends_line-clause-value c =
    let first : slice_get c.args.text.now 0 ≡ Some c.in-Some.first.now = at_front _ _ _ _ c.requires refl c.in-Some.ensures.value in
    let same : c.closes.result ≡ closes (literal_view c.args.literal) c.args.text.now = c.closes.ensures ∙ ap (closes (literal_view c.args.literal)) c.requires ∙ closes_by_three (literal_view c.args.literal) c.args.text.now in
    let stays : closes (literal_view c.args.literal) c.args.text.now ≡ false = sym same ∙ c.if-closes.false in
    sym (at_line (literal_view c.args.literal) c.args.text.now c.in-Some.first.now first stays (sym c.ends_line.ensures ∙ c.if-ends_line.true))

pub returns-then-byte-eq13-clause-value : goal.returns-then-byte-eq13-clause-value
returns-then-byte-eq13-clause-value c =
    let first : slice_get c.args.text.now 0 ≡ Some c.in-Some.first.now = at_front _ _ _ _ c.requires refl c.in-Some.ensures.value in
    let same : c.closes.result ≡ closes (literal_view c.args.literal) c.args.text.now = c.closes.ensures ∙ ap (closes (literal_view c.args.literal)) c.requires ∙ closes_by_three (literal_view c.args.literal) c.args.text.now in
    let stays : closes (literal_view c.args.literal) c.args.text.now ≡ false = sym same ∙ c.if-closes.false in
    let line : ends_line (literal_view c.args.literal) c.in-Some.first.now ≡ false = sym c.ends_line.ensures ∙ c.if-ends_line.false in
    c.part.ensures.value ∙ sym (at_return (literal_view c.args.literal) c.args.text.now c.in-Some.first.now first stays line c.if-byte-eq13.true)

pub returns-then-literal-clause-value : goal.returns-then-literal-clause-value
returns-then-literal-clause-value c =
    let first : slice_get c.args.text.now 0 ≡ Some c.in-Some.first.now = at_front _ _ _ _ c.requires refl c.in-Some.ensures.value in
    c.raw_pair.ensures.value ∙ sym (at_raw (literal_view c.args.literal) c.args.text.now c.in-Some.first.now first c.if-byte-eq92.true c.if-literal.true)

pub returns-else-literal-clause-value : goal.returns-else-literal-clause-value
returns-else-literal-clause-value c =
    let first : slice_get c.args.text.now 0 ≡ Some c.in-Some.first.now = at_front _ _ _ _ c.requires refl c.in-Some.ensures.value in
    c.escape.ensures.value ∙ sym (at_escape (literal_view c.args.literal) c.args.text.now c.in-Some.first.now first c.if-byte-eq92.true c.if-literal.false)

pub returns-then-is_brace-clause-value : goal.returns-then-is_brace-clause-value
returns-then-is_brace-clause-value c =
    let first : slice_get c.args.text.now 0 ≡ Some c.in-Some.first.now = at_front _ _ _ _ c.requires refl c.in-Some.ensures.value in
    let same : c.closes.result ≡ closes (literal_view c.args.literal) c.args.text.now = c.closes.ensures ∙ ap (closes (literal_view c.args.literal)) c.requires ∙ closes_by_three (literal_view c.args.literal) c.args.text.now in
    let stays : closes (literal_view c.args.literal) c.args.text.now ≡ false = sym same ∙ c.if-closes.false in
    let line : ends_line (literal_view c.args.literal) c.in-Some.first.now ≡ false = sym c.ends_line.ensures ∙ c.if-ends_line.false in
    let braced : is_brace c.args.literal.kind c.in-Some.first.now ≡ true = sym c.is_brace.ensures ∙ c.if-is_brace.true in
    c.brace.ensures.value ∙ sym (at_brace (literal_view c.args.literal) c.args.text.now c.in-Some.first.now first stays line c.if-byte-eq13.false c.if-byte-eq92.false braced)

pub returns-clause-value : goal.returns-clause-value
returns-clause-value c =
    let first : slice_get c.args.text.now 0 ≡ Some c.in-Some.first.now = at_front _ _ _ _ c.requires refl c.in-Some.ensures.value in
    let same : c.closes.result ≡ closes (literal_view c.args.literal) c.args.text.now = c.closes.ensures ∙ ap (closes (literal_view c.args.literal)) c.requires ∙ closes_by_three (literal_view c.args.literal) c.args.text.now in
    let stays : closes (literal_view c.args.literal) c.args.text.now ≡ false = sym same ∙ c.if-closes.false in
    let line : ends_line (literal_view c.args.literal) c.in-Some.first.now ≡ false = sym c.ends_line.ensures ∙ c.if-ends_line.false in
    let braced : is_brace c.args.literal.kind c.in-Some.first.now ≡ false = sym c.is_brace.ensures ∙ c.if-is_brace.false in
    let plain = at_plain (literal_view c.args.literal) c.args.text.now c.in-Some.first.now first stays line c.if-byte-eq13.false c.if-byte-eq92.false braced in
    rw (c.part-2.ensures.value, c.range.ensures.value, sub-zero, c.character_len-len.ensures.character, c.character_len-len.ensures.whole) (sym plain)
