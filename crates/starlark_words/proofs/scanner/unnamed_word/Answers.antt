-- The first byte decides which words may stand there.
use Rattle.std.proofs.Common.{◌≡◌, ℕ, [], ◌∷◌, ◌+◌, drop, get_or, refl, sym, ap, ◌∙◌, arith, Some}
use Rattle.std.proofs.lemmas.List.{take_rest}
use Rattle.std.specs.List.{prefix_len}
use Rattle.std.specs.Option.{option_map}
use Rattle.starlark_grammar.specs.Words.{Text, is_in_line}
use Rattle.starlark_grammar.specs.declared.class.Class.TheVariants as class
use Rattle.starlark_words.specs.Inner.ScannedWords.{mark_front, word_view}
use Rattle.starlark_words.proofs.Scan.ByFirst.{front_blank, front_tab, front_hash, front_mark}
use Rattle.starlark_words.proofs.Scan.Bangs.{no_bang_at_word}
use Rattle.starlark_words.proofs.Scan.Marks.{found_is_uncommon, mark_by_three}
use Rattle.starlark_words.proofs.Scan.MarkWords.{if_found}
use Rattle.starlark_words.proofs.Scan.ScannedNumbers.{front_of_digit}
use Rattle.starlark_words.proofs.scanner.unnamed_word.Goals as goal

-- the line of a text that begins with `#`
hash_line : (text : Text) → get_or text 0 0 ≡ 35 → 1 + prefix_len is_in_line (drop 1 text) ≡ prefix_len is_in_line text
hash_line [] e = absurd (omega (arith, e))
hash_line (x ∷ rest) e = rw e refl

pub returns-then-is_digit_alone-clause-word : goal.returns-then-is_digit_alone-clause-word
returns-then-is_digit_alone-clause-word c =
    let alone = sym (rw c.as_bytes-bytes.ensures.value at c.if-is_digit_alone.ensures) in
    sym (front_of_digit c.args.text.now (λ b rest e. omega (arith, rw e at c.type_inv.text 0)) (λ b next rest e. omega (arith, rw e at c.type_inv.text 1)) alone)

pub returns-in-32-clause-word : goal.returns-in-32-clause-word
returns-in-32-clause-word c =
    let first : get_or c.args.text.now 0 0 ≡ 32 = rw c.as_bytes-bytes.ensures.value at (sym c.byte_at-first.ensures ∙ c.in-32.is) in
    rw (c.repeats_len.ensures.value, c.as_bytes-bytes.ensures.value, front_blank c.args.text.now first) refl

pub returns-in-9-clause-word : goal.returns-in-9-clause-word
returns-in-9-clause-word c =
    let first : get_or c.args.text.now 0 0 ≡ 9 = rw c.as_bytes-bytes.ensures.value at (sym c.byte_at-first.ensures ∙ c.in-9.is) in
    rw (c.repeats_len-in-9.ensures.value, c.as_bytes-bytes.ensures.value, front_tab c.args.text.now first) refl

pub returns-in-35-clause-word : goal.returns-in-35-clause-word
returns-in-35-clause-word c =
    let first : get_or c.args.text.now 0 0 ≡ 35 = rw c.as_bytes-bytes.ensures.value at (sym c.byte_at-first.ensures ∙ c.in-35.is) in
    let found = rw (take_rest, c.as_bytes-bytes.ensures.value) at c.front_len.ensures.value in
    ap (λ (n : ℕ). Some (class.Comment, n)) (ap (λ n. 1 + n) found ∙ hash_line c.args.text.now first) ∙ sym (front_hash c.args.text.now first)

mark_at : (c : goal.After-mark) → option_map word_view c.mark.result ≡ mark_front c.args.text.now
mark_at c = (rw (c.byte_at-first.ensures, c.byte_at.ensures, c.byte_at-second.ensures, c.as_bytes-bytes.ensures.value) at c.mark.ensures.word) ∙ sym (mark_by_three c.args.text.now)

pub returns-in_default-clause-word : goal.returns-in_default-clause-word
returns-in_default-clause-word c =
    let first = rw c.as_bytes-bytes.ensures.value at c.byte_at-first.ensures in
    let number = sym (rw c.as_bytes-bytes.ensures.value at c.if-begins_number.ensures) in
    mark_at c
    ∙ sym (front_mark c.args.text.now (omega (arith, c.type_inv.text 0)) (omega (arith, first)) (omega (arith, first)) (omega (arith, first)) c.requires number)

pub returns-in_default-clause-bang : goal.returns-in_default-clause-bang
returns-in_default-clause-bang c = no_bang_at_word c.args.text.now c.mark.result (if_found _ _ (returns-in_default-clause-word c))

pub returns-in_default-clause-class : goal.returns-in_default-clause-class
returns-in_default-clause-class c = found_is_uncommon _ _ (mark_at c)
