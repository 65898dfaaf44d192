use Rattle.std.proofs.Common.{◌≡◌, ◌==◌, true, false, None, Some, length, take, drop, rules}
use Rattle.std.proofs.Math.Nat.{sub-zero}
use Rattle.starlark_grammar.specs.Front.{language_front}
use Rattle.starlark_grammar.specs.Words.{Text}
use Rattle.starlark_words.specs.OneIdentifier.{IsCut, IsOneIdentifier, if_identifier}
use Rattle.starlark_words.proofs.Identifiers.OneIdentifier.{IsRest, no_identifier, more_after, one_found, one_alone}
use Rattle.starlark_words.proofs.Identifiers.WordBoundaries.{identifier_is_cut}
use Rattle.starlark_words.proofs.one_identifier.lex_exactly_one_identifier.Goals as goal
use Rattle.starlark_words.proofs.one_identifier.lex_exactly_one_identifier.Goals.{In-Some-Identifier}

found : (c : In-Some-Identifier) → if_identifier (language_front c.after_skipped-rest.result.now) ≡ Some c.in-Some-Identifier.field-0.len
found c = search rules

cut : (c : In-Some-Identifier) → IsCut c.after_skipped-rest.result.now c.in-Some-Identifier.field-0.len
cut c = identifier_is_cut c.after_skipped-rest.result.now c.after_skipped-rest.utf8 c.in-Some-Identifier.field-0.len (found c)

pub range_from-requires : goal.range_from-requires
range_from-requires c = λ some. (cut (goal.at.range_from-requires c).In-Some-Identifier).boundary

pub range-requires-clause-end_boundary : goal.range-requires-clause-end_boundary
range-requires-clause-end_boundary c = (cut (goal.at.range-requires-clause-end_boundary c).In-Some-Identifier).boundary

pub returns-in_default-clause-value : goal.returns-in_default-clause-value
returns-in_default-clause-value c =
    let begin : IsRest c.args.s.now c.after_skipped-rest.result.now = record { passed = c.after_skipped-rest.ensures.passed; all = c.after_skipped-rest.ensures.all } in
    let none : if_identifier (language_front c.after_skipped-rest.result.now) ≡ None = search rules in
    no_identifier c.args.s.now c.after_skipped-rest.result.now begin none

pub returns-then-not-is_empty-clause-value : goal.returns-then-not-is_empty-clause-value
returns-then-not-is_empty-clause-value c =
    let word = (goal.at.returns-then-not-is_empty-clause-value c).In-Some-Identifier in
    let begin : IsRest c.args.s.now c.after_skipped-rest.result.now = record { passed = c.after_skipped-rest.ensures.passed; all = c.after_skipped-rest.ensures.all } in
    let end : IsRest (drop c.in-Some-Identifier.field-0.len c.after_skipped-rest.result.now) c.after_skipped.result.now = rw (← c.range_from.ensures.value) record { passed = c.after_skipped.ensures.passed; all = c.after_skipped.ensures.all } in
    let more : (length c.after_skipped.result.now == 0) ≡ false = rw (← c.is_empty.ensures) c.if-not-is_empty.true in
    more_after c.args.s.now c.after_skipped-rest.result.now c.after_skipped.result.now c.in-Some-Identifier.field-0.len begin (found word) end more

pub returns-in_err-from_str-clause-memory : goal.returns-in_err-from_str-clause-memory
returns-in_err-from_str-clause-memory c =
    let word = (goal.at.returns-in_err-from_str-clause-memory c).In-Some-Identifier in
    let begin : IsRest c.args.s.now c.after_skipped-rest.result.now = record { passed = c.after_skipped-rest.ensures.passed; all = c.after_skipped-rest.ensures.all } in
    let end : IsRest (drop c.in-Some-Identifier.field-0.len c.after_skipped-rest.result.now) c.after_skipped.result.now = rw (← c.range_from.ensures.value) record { passed = c.after_skipped.ensures.passed; all = c.after_skipped.ensures.all } in
    let none : (length c.after_skipped.result.now == 0) ≡ true = rw (← c.is_empty.ensures) c.if-not-is_empty.false in
    let found : (name : Text) × IsOneIdentifier c.args.s.now name =
    (take c.in-Some-Identifier.field-0.len c.after_skipped-rest.result.now, one_found c.args.s.now c.after_skipped-rest.result.now c.after_skipped.result.now c.in-Some-Identifier.field-0.len begin (found word) (cut word).inside end none) in
    search (rules, found)

pub returns-clause-value : goal.returns-clause-value
returns-clause-value c =
    let word = (goal.at.returns-clause-value c).In-Some-Identifier in
    let begin : IsRest c.args.s.now c.after_skipped-rest.result.now = record { passed = c.after_skipped-rest.ensures.passed; all = c.after_skipped-rest.ensures.all } in
    let end : IsRest (drop c.in-Some-Identifier.field-0.len c.after_skipped-rest.result.now) c.after_skipped.result.now = rw (← c.range_from.ensures.value) record { passed = c.after_skipped.ensures.passed; all = c.after_skipped.ensures.all } in
    let none : (length c.after_skipped.result.now == 0) ≡ true = rw (← c.is_empty.ensures) c.if-not-is_empty.false in
    let found = one_alone c.args.s.now c.after_skipped-rest.result.now c.after_skipped.result.now c.in-Some-Identifier.field-0.len begin (found word) (cut word).inside end none in
    rw (c.in_ok-from_str.ensures.ok, c.range.ensures.value, sub-zero) found
