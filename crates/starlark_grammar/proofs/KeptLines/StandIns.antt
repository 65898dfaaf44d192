-- What stands for a fault: where it is, and that it stays.
use Rattle.std.proofs.Common.{◌≡◌, ℕ, ◌+◌, ◌-◌, ◌≤◌, Bool, true, false, ◌++◌, length, map, take, drop, refl, ap, ◌∙◌, arith, inr}
use Rattle.std.specs.List.{AllByRecursion, starts_with}
use Rattle.std.specs.Prelude.{◌||◌, codes, if◌then◌else◌, nat_eq}
use Rattle.std.proofs.lemmas.List.{drop-append-le, length-drop, take-append-le}
use Rattle.std.proofs.Math.Seq.{drop-append-add}
use Rattle.starlark_grammar.specs.Cuts.{is_newline}
use Rattle.starlark_grammar.specs.FoundLaws.{BeginsAfter}
use Rattle.starlark_grammar.specs.Joining.{has_newline}
use Rattle.starlark_grammar.specs.Items.{closing_quotes}
use Rattle.starlark_grammar.specs.KeptLines.{literal_opening, with_literal_at}
use Rattle.starlark_grammar.specs.RecoveryLaws.{AreInOrder}
use Rattle.starlark_grammar.specs.StandIns.{after_first_quote, stand_ins_at, without_quotes, written_literal, written_quote}
use Rattle.starlark_grammar.specs.Tokens.{Bytes, Fault, InvalidEscapeSequence, ReservedKeyword, Spanned, StartsZero, String, UnfinishedStringLiteral, moved}
use Rattle.starlark_grammar.specs.Words.{Text}
use Rattle.starlark_grammar.proofs.KeptLines.LiteralRests.{opening_moved, whole_moved, whole_other}

-- Where they are

module _ (at : ℕ) (text : Text) (fault : Spanned Fault) (begun : at ≤ fault.begin) (order : fault.begin ≤ fault.end) (ends : fault.end ≤ (with_literal_at at text fault).end) where
  abbrev end : ℕ
  end = (with_literal_at at text fault).end

  -- in order, up to the end of the fault with all of its literal
  pub stand_ins_order : AreInOrder at (stand_ins_at at text fault) (with_literal_at at text fault).end
  unfolding stand_ins_at
  stand_ins_order = by fault.node fault.begin fault.end begun order ends
    where
      by : (node : Fault) (from to : ℕ) → at ≤ from → from ≤ to → to ≤ (with_literal_at at text (record { begin = from; node = node; end = to })).end
          → AreInOrder at (stand_ins_at at text (record { begin = from; node = node; end = to })) (with_literal_at at text (record { begin = from; node = node; end = to })).end
      by (ReservedKeyword word) from to begun order ends = (begun, order, ends)
      by (StartsZero word) from to begun order ends = (begun, order, ends)
      by (InvalidEscapeSequence escape) from to begun order ends = (omega arith, omega (arith, begun, order, ends), omega arith)
      by UnfinishedStringLiteral from to begun order ends = (begun, order, ends)
      by other from to begun order ends = omega (arith, begun, order, ends)

  -- with all bytes of the fault
  pub stand_ins_cover : AllByRecursion (BeginsAfter fault) (stand_ins_at at text fault)
  unfolding stand_ins_at
  stand_ins_cover = by fault.node fault.begin fault.end begun ends
    where
      by : (node : Fault) (from to : ℕ) → at ≤ from → to ≤ (with_literal_at at text (record { begin = from; node = node; end = to })).end
          → AllByRecursion (BeginsAfter (record { begin = from; node = node; end = to })) (stand_ins_at at text (record { begin = from; node = node; end = to }))
      by (ReservedKeyword word) from to begun ends = (inr (omega arith, omega arith), tt)
      by (StartsZero word) from to begun ends = (inr (omega arith, omega arith), tt)
      by (InvalidEscapeSequence escape) from to begun ends = (inr (begun, ends), tt)
      by UnfinishedStringLiteral from to begun ends = (inr (omega arith, omega arith), tt)
      by other from to begun ends = tt

-- None is a newline.
pub no_newline : (at : ℕ) (text : Text) (fault : Spanned Fault) → has_newline (stand_ins_at at text fault) ≡ false
unfolding stand_ins_at written_literal written_quote
no_newline at text fault = by fault.begin fault.node fault.end
  where
    literal : (is_bytes : Bool) (one other : Text) → is_newline (if is_bytes then Bytes one else String other) ≡ false
    literal true one other = refl
    literal false one other = refl

    by : (from : ℕ) (node : Fault) (to : ℕ) → has_newline (stand_ins_at at text (record { begin = from; node = node; end = to })) ≡ false
    by from (ReservedKeyword word) to = refl
    by from (StartsZero word) to = refl
    by from (InvalidEscapeSequence escape) to =
        let whole : Text = take ((with_literal_at at text (record { begin = from; node = InvalidEscapeSequence escape; end = to })).end - at) (drop at text) in
        let quotes : Text = closing_quotes (literal_opening at text from) in
        rw (literal (starts_with nat_eq whole (codes "b")) (without_quotes quotes (drop 1 whole)) (without_quotes quotes whole)) refl
    by from UnfinishedStringLiteral to =
        let whole : Text = take (to - from) (drop from text) in
        rw (literal (starts_with nat_eq whole (codes "b") || starts_with nat_eq whole (codes "rb")) (after_first_quote whole) (after_first_quote whole)) refl
    by from other to = refl

-- In a text that goes on they stay.
pub stand_ins_stay : (at : ℕ) (text more : Text) (fault : Spanned Fault) → with_literal_at at (text ++ more) fault ≡ with_literal_at at text fault → at ≤ length text → fault.begin ≤ length text → (with_literal_at at text fault).end ≤ length text
    → stand_ins_at at (text ++ more) fault ≡ stand_ins_at at text fault
unfolding stand_ins_at
stand_ins_stay at text more fault same begun inside ends = by fault.begin fault.node fault.end inside (ap (λ (f : Spanned Fault). f.end) same) ends
  where
    by : (from : ℕ) (node : Fault) (to : ℕ) → from ≤ length text → (with_literal_at at (text ++ more) (record { begin = from; node = node; end = to })).end ≡ (with_literal_at at text (record { begin = from; node = node; end = to })).end
        → (with_literal_at at text (record { begin = from; node = node; end = to })).end ≤ length text
        → stand_ins_at at (text ++ more) (record { begin = from; node = node; end = to }) ≡ stand_ins_at at text (record { begin = from; node = node; end = to })
    by from (InvalidEscapeSequence escape) to inside e ends =
        let end : ℕ = (with_literal_at at text (record { begin = from; node = InvalidEscapeSequence escape; end = to })).end in
        let whole : take (end - at) (drop at (text ++ more)) ≡ take (end - at) (drop at text) =
        ap (take (end - at)) (drop-append-le at text more begun) ∙ take-append-le (end - at) (drop at text) more (omega (arith, ends, length-drop at text)) in
        rw (e, whole, take-append-le from text more inside) refl
    by from UnfinishedStringLiteral to inside e ends =
        let last = ap (λ (f : Spanned Fault). f.end) (whole_other at text (record { begin = from; node = UnfinishedStringLiteral; end = to }) refl) in
        let bytes : take (to - from) (drop from (text ++ more)) ≡ take (to - from) (drop from text) =
        ap (take (to - from)) (drop-append-le from text more inside) ∙ take-append-le (to - from) (drop from text) more (omega (arith, ends, last, length-drop from text)) in
        rw bytes refl
    by from (ReservedKeyword word) to inside e ends = refl
    by from (StartsZero word) to inside e ends = refl
    by from other to inside e ends = refl

-- In a text after another they are moved.
pub stand_ins_moved : (at : ℕ) (first second : Text) (fault : Spanned Fault) → stand_ins_at (length first + at) (first ++ second) (moved (length first) fault) ≡ map (moved (length first)) (stand_ins_at at second fault)
unfolding stand_ins_at
stand_ins_moved at first second fault = by fault.begin fault.node fault.end (ap (λ (f : Spanned Fault). f.end) (whole_moved at first second fault).0)
  where
    n : ℕ
    n = length first

    by : (from : ℕ) (node : Fault) (to : ℕ) → (with_literal_at (length first + at) (first ++ second) (record { begin = length first + from; node = node; end = length first + to })).end ≡ length first + (with_literal_at at second (record { begin = from; node = node; end = to })).end
        → stand_ins_at (length first + at) (first ++ second) (record { begin = length first + from; node = node; end = length first + to }) ≡ map (moved (length first)) (stand_ins_at at second (record { begin = from; node = node; end = to }))
    by from (InvalidEscapeSequence escape) to e =
        let end : ℕ = (with_literal_at at second (record { begin = from; node = InvalidEscapeSequence escape; end = to })).end in
        let len : length first + end - (length first + at) ≡ end - at = omega arith in
        rw (e, len, drop-append-add first second at, opening_moved at first second from) refl
    by from UnfinishedStringLiteral to e =
        let len : length first + to - (length first + from) ≡ to - from = omega arith in
        rw (len, drop-append-add first second from) refl
    by from (ReservedKeyword word) to e = refl
    by from (StartsZero word) to e = refl
    by from other to e = refl
