use Rattle.std.proofs.Common.{◌≡◌, ◌∙◌, ◌<◌, ℕ, arith, get_or, sym}
use Rattle.starlark_words.proofs.Scan.Bangs.{mark_not_comment, name_not_comment, no_bang_at_word}
use Rattle.starlark_words.proofs.Scan.MarkWords.{IsWord, at_line_feed, by_three_bytes, by_two_bytes}
use Rattle.starlark_words.proofs.scanner.word_after.Goals.{After-mark, else-second-first, then-second-first}
use Rattle.starlark_words.proofs.scanner.word_after.Goals as goal

pub returns-then-first-eq10-clause-word : goal.returns-then-first-eq10-clause-word
returns-then-first-eq10-clause-word c =
    let first : get_or c.args.text.now 0 0 ≡ 10 = sym c.requires.first ∙ c.if-first-eq10.true in
    sym (at_line_feed c.args.text.now (λ i. omega (arith, c.type_inv.text i)) first)

is_word : (c : goal.After-mark) → IsWord c.args.text.now c.mark.result
is_word c =
    let small : (i : ℕ) → get_or c.args.text.now i 0 < 256 = λ i. omega (arith, c.type_inv.text i) in
    elim c.if-second-first.branch [
      | then-second-first w ↦ by_three_bytes c.args.text.now c.mark.result small (rw (w.third-is, c.requires.first, c.byte_at-second.ensures, w.byte_at-third.ensures, c.as_bytes-bytes.ensures.value) at c.mark.ensures.word)
      | else-second-first w ↦ by_two_bytes c.args.text.now c.mark.result small (rw (c.requires.first, c.byte_at-second.ensures, c.as_bytes-bytes.ensures.value) at w.if-second-first.false) (rw (w.third-is, c.requires.first, c.byte_at-second.ensures, c.as_bytes-bytes.ensures.value) at c.mark.ensures.word)
    ]

pub returns-clause-word : goal.returns-clause-word
returns-clause-word c = (is_word c).0

pub returns-clause-bang : goal.returns-clause-bang
returns-clause-bang c = no_bang_at_word c.args.text.now c.mark.result (is_word c).0

pub returns-clause-rest : goal.returns-clause-rest
returns-clause-rest c = (is_word c).1

pub returns-clause-comment : goal.returns-clause-comment
returns-clause-comment c =
    mark_not_comment c.args.text.now c.mark.result c.args.first c.byte_at-second.result c.if-second-first.third c.requires.first c.mark.ensures.word (is_word c).0

pub returns-then-is_name_start-clause-comment : goal.returns-then-is_name_start-clause-comment
returns-then-is_name_start-clause-comment c = name_not_comment c.args.text.now c.name_from.result (sym (rw c.requires.first at c.if-is_name_start.ensures)) c.name_from.ensures.word
