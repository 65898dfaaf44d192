use Rattle.std.proofs.Common.{◌≡◌, ◌∙◌, ap, arith, length, sym, take}
use Rattle.std.proofs.lemmas.List.{length-take, take_all}
use Rattle.starlark_words.specs.Inner.ScannedWords.{word_number}
use Rattle.starlark_words.proofs.Scan.NameNumbers.{number_masked, number_of_eight}
use Rattle.starlark_words.proofs.scanner.names.name_number.Goals.{in-Some, in-None}
use Rattle.starlark_words.proofs.scanner.names.name_number.Goals as goal

pub returns : goal.returns
returns c =
    let front : c.match-first_chunk.front ≡ word_number (take 8 c.args.text.now) = elim c.match-first_chunk.branch [
      | in-Some w ↦
          let same = w.in-Some.ensures.cases.same in
          let len : length w.in-Some.front.now ≡ 8 = omega (arith, ap length same, length-take 8 c.args.text.now, w.in-Some.ensures.cases.enough) in
          w.front-is ∙ w.from_le_bytes-front.ensures ∙ number_of_eight w.in-Some.front.now len ∙ ap word_number same
      | in-None w ↦ w.front-is ∙ w.short_number-front.ensures ∙ ap word_number (sym (take_all 8 c.args.text.now (omega (arith, w.in-None.ensures.cases))))
    ] in
    number_masked c.args.len c.match-first_chunk.front c.args.text.now (omega (arith, c.requires.short)) (λ i. omega (arith, c.type_inv.text i)) front
