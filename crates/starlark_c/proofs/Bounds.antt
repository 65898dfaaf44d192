-- What an outcome tells of a text is bounded by the text's length.
use Rattle.std.proofs.Common.{◌≡◌, ℕ, ◌+◌, ◌*◌, ◌≤◌, inl, inr, length, take, ap, subst, arith, append-nil, length-append, []}
use Rattle.std.specs.Prelude.{Option}
use Rattle.std.proofs.lemmas.List.{length-map}
use Rattle.starlark_c.specs.Endings.{AreFirst, Buffers, Ends, EndsFront, IsCut, lexemes_of, named}
use Rattle.starlark_c.specs.Outcomes.{AreBounded, outcome_record}
use Rattle.starlark_c.specs.Records.{values}
use Rattle.starlark_c.specs.declared.endings.Ending.{Ending}
use Rattle.starlark_c.specs.declared.endings.Ending.TheVariants as ending
use Rattle.starlark_c.specs.declared.endings.Filled.{Filled}
use Rattle.starlark_c.proofs.Filled.{fewer_values}
use Rattle.starlark_c.proofs.ValueBounds.{values_bound}
use Rattle.starlark_grammar.specs.Reading.{outcome}
use Rattle.starlark_grammar.specs.Words.{Text, language}
use Rattle.starlark_grammar.proofs.Indentation.LayoutTotals.{outcome_balances}
use Rattle.starlark_token.specs.Lexemes.{shown_lexeme}

-- a text has at most two lexemes a byte, and one more
lexemes_bound : (text : Text) → length (lexemes_of text) ≤ 2 * length text + 1
unfolding outcome
lexemes_bound text = omega (arith, length-map (outcome text).lexemes shown_lexeme, (outcome_balances language text).2)

-- the values of its first lexemes have no more bytes than it
first_bound : (home : Option Text) (text : Text) (count : ℕ) → length (values home (take count (lexemes_of text))) ≤ length text
first_bound home text count = omega (arith, fewer_values home count (lexemes_of text), values_bound home text, length-append (values home (lexemes_of text)) (named (outcome text).fault))

all_lexeme_values : (home : Option Text) (text : Text) → length (values home (lexemes_of text)) ≤ length text
all_lexeme_values home text = omega (arith, values_bound home text, length-append (values home (lexemes_of text)) (named (outcome text).fault))

filled_bound : (home : Option Text) (text : Text) (count : ℕ) (filled : Filled) → count ≤ length (lexemes_of text) → filled ≡ record { lexemes = count; values = length (values home (take count (lexemes_of text))) } → (filled.lexemes ≤ 2 * length text + 1) × (filled.values ≤ length text)
filled_bound home text count filled few counts =
    let lexemes = ap (λ (f : Filled). f.lexemes) counts in
    let bytes = ap (λ (f : Filled). f.values) counts in
    (omega (arith, lexemes, few, lexemes_bound text), omega (arith, bytes, first_bound home text count))

wanted_bound : (home : Option Text) (text : Text) (lexemes bytes : ℕ) → AreFirst home text lexemes bytes → (lexemes ≤ 2 * length text + 1) × (bytes ≤ length text)
wanted_bound home text lexemes bytes (inl some) = (omega (arith, some.0, lexemes_bound text), omega (arith, some.1, first_bound home text lexemes))
wanted_bound home text lexemes bytes (inr all) = (omega (arith, all.0, lexemes_bound text), omega (arith, all.1, values_bound home text))

pub bounded : (home : Option Text) (text : Text) (before after : Buffers) (end : Ending) → Ends home text before after end → AreBounded (length text) (outcome_record (length text) end)
bounded home text before after (ending.Whole filled) ends =
    let lexemes = ap (λ (f : Filled). f.lexemes) ends.1.counts in
    let bytes = ap (λ (f : Filled). f.values) ends.1.counts in
    record { lexemes = omega (arith, lexemes, lexemes_bound text); values = omega (arith, bytes, all_lexeme_values home text); wanted_lexemes = omega arith; wanted_values = omega arith }
bounded home text before after (ending.Fault filled fault) ends =
    let lexemes = ap (λ (f : Filled). f.lexemes) ends.1.counts in
    let bytes = ap (λ (f : Filled). f.values) ends.1.counts in
    record { lexemes = omega (arith, lexemes, lexemes_bound text); values = omega (arith, bytes, values_bound home text); wanted_lexemes = omega arith; wanted_values = omega arith }
bounded home text before after (ending.Piece filled next) ends =
    let both = filled_bound home text ends.1.count filled ends.1.few ends.1.counts in
    record { lexemes = both.0; values = both.1; wanted_lexemes = omega arith; wanted_values = omega arith }
bounded home text before after (ending.Full wanted) ends =
    let both = wanted_bound home text ends.1.lexemes ends.1.bytes ends.1.first in
    let lexemes = ap (λ (f : Filled). f.lexemes) ends.1.needs in
    let bytes = ap (λ (f : Filled). f.values) ends.1.needs in
    record { lexemes = omega arith; values = omega arith; wanted_lexemes = omega (arith, lexemes, both.0); wanted_values = omega (arith, bytes, both.1) }
bounded home text before after (ending.Memory filled) ends =
    let both = filled_bound home text ends.1.count filled ends.1.few ends.1.counts in
    record { lexemes = both.0; values = both.1; wanted_lexemes = omega arith; wanted_values = omega arith }
bounded home text before after (ending.NotUtf8 valid) ends = record { lexemes = omega arith; values = omega arith; wanted_lexemes = omega arith; wanted_values = omega arith }
bounded home text before after ending.TooLong ends = record { lexemes = omega arith; values = omega arith; wanted_lexemes = omega arith; wanted_values = omega arith }

pub bounded_front : (home : Option Text) (front : Text) (before after : Buffers) (end : Ending) → EndsFront home front before after end → AreBounded (length front) (outcome_record (length front) end)
bounded_front home front before after (ending.Piece filled next) ends =
    bounded home front before after (ending.Piece filled next) (ends.0, subst (λ (t : Text). IsCut home t after filled next) (append-nil front) (ends.1 []))
bounded_front home front before after (ending.Whole filled) ends = bounded home front before after (ending.Whole filled) ends
bounded_front home front before after (ending.Fault filled fault) ends = bounded home front before after (ending.Fault filled fault) ends
bounded_front home front before after (ending.Full wanted) ends = bounded home front before after (ending.Full wanted) ends
bounded_front home front before after (ending.Memory filled) ends = bounded home front before after (ending.Memory filled) ends
bounded_front home front before after (ending.NotUtf8 valid) ends = bounded home front before after (ending.NotUtf8 valid) ends
bounded_front home front before after ending.TooLong ends = bounded home front before after ending.TooLong ends
