use Rattle.std.proofs.Common.{◌≡◌, ◌∙◌, true, false, drop, sym, ap, Some, None, arith, rules, ℕ, ◌∷◌}
use Rattle.std.proofs.lemmas.Bool.Decides.{nat_tests}
use Rattle.std.proofs.Math.Nat.{sub-zero}
use Rattle.std.proofs.lemmas.Str.{encode_ascii}
use Rattle.std.specs.List.{slice_get}
use Rattle.starlark_grammar.specs.FrontCharacter.{first_character}
use Rattle.starlark_grammar.specs.Items.{escape, goes, is_of_bytes, octal, simple}
use Rattle.starlark_grammar.specs.Words.{is_octal_digit}
use Rattle.starlark_words.proofs.LiteralBodies.Escapes.{with_first, escape_end, escape_feed, escape_return, escape_x, escape_u, escape_long, escape_octal, escape_other, escape_short}
use Rattle.starlark_words.proofs.LiteralBodies.FirstBytes.{cut_after}
use Rattle.starlark_words.proofs.PeekedBytes.{second_at_front}
use Rattle.starlark_words.proofs.escapes.escape.Goals as goal
use Rattle.starlark_words.proofs.escapes.escape.Goals.{After-eq-is_byte, In-Some}

pub returns-in_default-clause-value : goal.returns-in_default-clause-value
returns-in_default-clause-value c =
    let remainder = c.after_first-remainder.ensures in
    let end : slice_get (drop 1 c.args.text.now) 0 ≡ None = second_at_front c.args.text.now _ _ c.requires.front (search rules) in
    rw (c.broken.ensures.value, remainder) (sym (escape_end _ (drop 1 c.args.text.now) end))

is_byte_is : (c : After-eq-is_byte) → c.eq-is_byte.result ≡ is_of_bytes c.args.kind
is_byte_is c = search rules

-- the first byte after the backslash, …
first_is : (c : In-Some) → slice_get (drop 1 c.args.text.now) 0 ≡ Some c.in-Some.first.now
first_is c = second_at_front c.args.text.now _ _ c.requires.front (search rules)

-- … and a known one
text_is : (c : In-Some) (b : ℕ) → c.in-Some.first.now ≡ b → escape c.args.kind (drop 1 c.args.text.now) ≡ escape c.args.kind (b ∷ drop 1 (drop 1 c.args.text.now))
text_is c b is = ap (escape c.args.kind) (with_first (drop 1 c.args.text.now) b (first_is c ∙ ap Some is))

pub returns-in-48-to-55-clause-value : goal.returns-in-48-to-55-clause-value
returns-in-48-to-55-clause-value c =
    let remainder = c.after_first-remainder.ensures in
    let first = first_is (goal.at.returns-in-48-to-55-clause-value c).In-Some in
    let text = ap (escape c.args.kind) (with_first (drop 1 c.args.text.now) c.in-Some.first.now first) in
    let digit : is_octal_digit c.in-Some.first.now ≡ true = grind (arith, nat_tests) in
    rw (c.octal.ensures.value, is_byte_is (goal.at.returns-in-48-to-55-clause-value c).After-eq-is_byte, remainder) (sym (text ∙ escape_octal _ _ _ digit ∙ ap (octal _) (sym (with_first _ c.in-Some.first.now first))))

pub returns-in-10-clause-value : goal.returns-in-10-clause-value
returns-in-10-clause-value c =
    let text = text_is (goal.at.returns-in-10-clause-value c).In-Some 10 c.in-10.is in
    c.part.ensures.value ∙ sym (text ∙ escape_feed _ _)

pub returns-in-13-clause-value : goal.returns-in-13-clause-value
returns-in-13-clause-value c =
    let text = text_is (goal.at.returns-in-13-clause-value c).In-Some 13 c.in-13.is in
    rw (c.escaped_newline.ensures.value, c.after_first.ensures, c.after_first-remainder.ensures) (sym (text ∙ escape_return _ _))

pub returns-in-120-clause-value : goal.returns-in-120-clause-value
returns-in-120-clause-value c =
    let text = text_is (goal.at.returns-in-120-clause-value c).In-Some 120 c.in-120.is in
    rw (c.hexadecimal.ensures.value, is_byte_is (goal.at.returns-in-120-clause-value c).After-eq-is_byte, c.after_first-in-120.ensures, c.after_first-remainder.ensures) (sym (text ∙ escape_x _ _))

pub returns-in-117-clause-value : goal.returns-in-117-clause-value
returns-in-117-clause-value c =
    let text = text_is (goal.at.returns-in-117-clause-value c).In-Some 117 c.in-117.is in
    rw (c.hexadecimal-in-117.ensures.value, c.after_first-in-117.ensures, c.after_first-remainder.ensures) (sym (text ∙ escape_u _ _))

pub returns-in-85-clause-value : goal.returns-in-85-clause-value
returns-in-85-clause-value c =
    let text = text_is (goal.at.returns-in-85-clause-value c).In-Some 85 c.in-85.is in
    rw (c.hexadecimal-in-85.ensures.value, c.after_first-in-85.ensures, c.after_first-remainder.ensures) (sym (text ∙ escape_long _ _))

pub returns-in-Some-simple_value-clause-value : goal.returns-in-Some-simple_value-clause-value
returns-in-Some-simple_value-clause-value c =
    let first = first_is (goal.at.returns-in-Some-simple_value-clause-value c).In-Some in
    ap (goes 2) (encode_ascii c.in-Some-simple_value.value c.in-Some-simple_value.ensures.ascii)
    ∙ sym (escape_short c.args.kind (drop 1 c.args.text.now) c.in-Some.first.now c.in-Some-simple_value.value first (sym c.in-Some-simple_value.ensures.value))

pub returns-in-None-clause-value : goal.returns-in-None-clause-value
returns-in-None-clause-value c =
    let first = first_is (goal.at.returns-in-None-clause-value c).In-Some in
    let other : is_octal_digit c.in-Some.first.now ≡ false = grind (arith, nat_tests) in
    let found = escape_other c.args.kind (drop 1 c.args.text.now) c.in-Some.first.now first other (omega arith) (omega arith) (omega arith) (omega arith) (omega arith) in
    rw (c.part-in-None.ensures.value, c.range.ensures.value, sub-zero, cut_after c.args.text.now (drop 1 c.args.text.now) c.character_len-len.result c.requires.begins, ← c.after_first-remainder.ensures, c.character_len-len.ensures.character, c.character_len-len.ensures.whole, c.after_first-remainder.ensures)
    (sym (found ∙ ap (λ value. simple value (first_character (drop 1 c.args.text.now))) (sym c.in-None.ensures.value)))
