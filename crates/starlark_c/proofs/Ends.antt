-- How lexing ends after all lexemes of a text.
use Rattle.std.proofs.Common.{◌≡◌, ℕ, ◌+◌, ◌≤◌, ◌++◌, length, take, refl, ap, ◌∙◌, arith, None, Some, inr, length-append}
use Rattle.std.specs.Prelude.{Option}
use Rattle.std.proofs.lemmas.List.{take_all}
use Rattle.starlark_c.specs.Endings.{Buffers, Ends, Hold, IsText, all_values, lexemes_of, named}
use Rattle.starlark_c.specs.Inner.Filling.{EndsByFault, filled_by, wanted_by}
use Rattle.starlark_c.specs.Records.{fault_bytes, fault_record, records, values}
use Rattle.starlark_c.specs.declared.endings.Ending.{Ending}
use Rattle.starlark_c.specs.declared.endings.Ending.TheVariants as ending
use Rattle.starlark_c.specs.declared.endings.Filled.{Filled}
use Rattle.starlark_c.proofs.Filled.{hold_fault, same_sizes}
use Rattle.starlark_grammar.specs.Reading.{outcome}
use Rattle.starlark_grammar.specs.Tokens.{Fault, Spanned}
use Rattle.starlark_grammar.specs.Words.{Text}

pub whole_front : (text : Text) (n : ℕ) → n ≡ length (lexemes_of text) → take n (lexemes_of text) ≡ lexemes_of text
whole_front text n all = take_all n (lexemes_of text) (omega (arith, all))

pub ends_whole : (home : Option Text) (text : Text) (before now : Buffers) (n : ℕ) (filled : Filled) → IsText text → (outcome text).fault ≡ None → n ≡ length (lexemes_of text) → Hold (records home (take n (lexemes_of text))) (values home (take n (lexemes_of text))) before now
    → filled ≡ filled_by home (take n (lexemes_of text)) → Ends home text before now (ending.Whole filled)
ends_whole home text before now n filled is none all held counted =
    let front = whole_front text n all in
    (is, record { faultless = none; hold = rw front at held; counts = rw front at counted })

pub ends_fault : (home : Option Text) (text : Text) (before now : Buffers) (values_after : Text) (n : ℕ) (fault : Spanned Fault) (filled : Filled) (end : Ending) → IsText text → (outcome text).fault ≡ Some fault → n ≡ length (lexemes_of text)
    → Hold (records home (take n (lexemes_of text))) (values home (take n (lexemes_of text))) before now → filled ≡ filled_by home (take n (lexemes_of text)) → EndsByFault fault filled now.values values_after end
    → Ends home text before (record { lexemes = now.lexemes; values = values_after }) end
ends_fault home text before now values_after n fault filled end is has all held counted ends = go end ends
  where
    front : take n (lexemes_of text) ≡ lexemes_of text
    front = whole_front text n all

    held_all : Hold (records home (lexemes_of text)) (values home (lexemes_of text)) before now
    held_all = rw front at held

    counted_all : filled ≡ filled_by home (lexemes_of text)
    counted_all = rw front at counted

    says : all_values home text ≡ values home (lexemes_of text) ++ fault_bytes fault.node
    says = ap (λ (f : Option (Spanned Fault)). values home (lexemes_of text) ++ named f) has

    count : filled.lexemes ≡ length (lexemes_of text)
    count = ap (λ (f : Filled). f.lexemes) counted_all

    bytes : filled.values ≡ length (values home (lexemes_of text))
    bytes = ap (λ (f : Filled). f.values) counted_all

    long : filled.values + length (fault_bytes fault.node) ≡ length (all_values home text)
    long = omega (arith, bytes, ap length says, length-append (values home (lexemes_of text)) (fault_bytes fault.node))

    go : (end : Ending) → EndsByFault fault filled now.values values_after end → Ends home text before (record { lexemes = now.lexemes; values = values_after }) end
    go (ending.Fault more told) ends = (
      is,
      record {
        fault = fault;
        is = has;
        hold = rw says (hold_fault home before now values_after (lexemes_of text) (fault_bytes fault.node) filled held_all counted_all ends.0 ends.1);
        tells = ends.3 ∙ ap (λ k. fault_record k fault) bytes;
        counts = ends.2 ∙ ap (λ k. record { lexemes = k; values = filled.values + length (fault_bytes fault.node) }) count ∙ ap (λ k. record { lexemes = length (lexemes_of text); values = k }) long;
      },
    )
    go (ending.Full wanted) ends = (
      is,
      record {
        lexemes = length (lexemes_of text);
        bytes = length (all_values home text);
        first = inr (refl, refl);
        lacks = inr (omega (arith, ends.0, long, (same_sizes home before now (lexemes_of text) held_all).1));
        needs = ends.2 ∙ ap (λ k. wanted_by k (filled.values + length (fault_bytes fault.node))) count ∙ ap (wanted_by (length (lexemes_of text))) long;
        count = n;
        few = omega (arith, all);
        hold = rw ends.1 held;
      },
    )
    go (ending.Whole more) ends = absurd ends
    go (ending.Piece more next) ends = absurd ends
    go (ending.NotUtf8 valid) ends = absurd ends
    go (ending.Memory more) ends = absurd ends
    go ending.TooLong ends = absurd ends

pub ends_memory : (home : Option Text) (text : Text) (before now : Buffers) (n : ℕ) (filled : Filled) → IsText text → n ≤ length (lexemes_of text) → Hold (records home (take n (lexemes_of text))) (values home (take n (lexemes_of text))) before now
    → filled ≡ record { lexemes = n; values = length (values home (take n (lexemes_of text))) } → Ends home text before now (ending.Memory filled)
ends_memory home text before now n filled is few held counted = (is, record { count = n; few = few; hold = held; counts = counted })
