use Rattle.std.proofs.Common.{◌≡◌, [], Some, refl, sym, subst, arith, rules}
use Rattle.starlark_grammar.specs.Front.{language_front}
use Rattle.starlark_words.specs.OneIdentifier.{IsAfterSkipped, IsCut, if_skipped}
use Rattle.starlark_words.proofs.Identifiers.OneIdentifier.{after_more}
use Rattle.starlark_words.proofs.Identifiers.WordBoundaries.{skipped_is_cut}
use Rattle.starlark_words.proofs.one_identifier.after_skipped.Goals as goal
use Rattle.starlark_words.proofs.one_identifier.after_skipped.Goals.{In-Some-Skipped}

found : (c : In-Some-Skipped) → if_skipped (language_front c.loop-len.rest.now) ≡ Some c.in-Some-Skipped.field-0.len
found c = search rules

cut : (c : In-Some-Skipped) → IsCut c.loop-len.rest.now c.in-Some-Skipped.field-0.len
cut c = skipped_is_cut c.loop-len.rest.now c.loop-len.invariant.utf8 c.in-Some-Skipped.field-0.len (found c)

pub loop-len-init : goal.loop-len-init
loop-len-init c = record { passed = ([], refl); utf8 = c.utf8.text }

pub first_word-requires-text-text : goal.first_word-requires-text-text
first_word-requires-text-text c κs = c.loop-len.invariant.utf8

pub range_from-rest-requires : goal.range_from-rest-requires
range_from-rest-requires c = λ some. (cut (goal.at.range_from-rest-requires c).In-Some-Skipped).boundary

pub loop-len-smaller : goal.loop-len-smaller
loop-len-smaller c =
    let cuts = cut (goal.at.loop-len-smaller c).In-Some-Skipped in
    search (arith, cuts.some, cuts.inside)

pub loop-len-preserved : goal.loop-len-preserved
loop-len-preserved c =
    let word = (goal.at.loop-len-preserved c).In-Some-Skipped in
    record {
      passed = subst (IsAfterSkipped c.args.text.now) (sym c.range_from-rest.ensures.value) (after_more c.args.text.now c.loop-len.rest.now c.in-Some-Skipped.field-0.len c.loop-len.invariant.passed (found word) (cut word).inside);
      utf8 = c.range_from-rest.utf8;
    }
