-- Whether a text holds a span, as a fact and as a test.
use Rattle.std.proofs.Common.{◌≡◌, ℕ, ◌≤◌, ◌↔◌, Bool, true, false, ◌&&◌, IsTrue, leb, length, take, refl, sym, arith}
use Rattle.std.proofs.lemmas.Bool.{and_parts}
use Rattle.std.proofs.lemmas.Bool.Decides.{nat_tests}
use Rattle.std.proofs.lemmas.Str.{IsUtf8-take, IsUtf8-from_is_utf8, is_utf8-from_IsUtf8, IsCharBoundary-from_take}
use Rattle.std.specs.Str.{IsUtf8, is_utf8}
use Rattle.starlark_base.specs.Spans.{ByteSpan}
use Rattle.starlark_base.specs.Places.{Text}
use Rattle.starlark_base.specs.Sources.{Holds, holds}

leb-from : (m n : ℕ) → m ≤ n → leb m n ≡ true
leb-from m n order = grind (arith, nat_tests)

leb-to : (m n : ℕ) → leb m n ≡ true → m ≤ n
leb-to m n test = grind (arith, nat_tests)

holds_from : (text : Text) (span : ByteSpan) → IsUtf8 text → Holds text span → holds text span ≡ true
unfolding holds
holds_from text span utf8 held =
    let begin = is_utf8-from_IsUtf8 (take span.begin text) (IsUtf8-take text span.begin utf8 held.begin) in
    let end = is_utf8-from_IsUtf8 (take span.end text) (IsUtf8-take text span.end utf8 held.end) in
    rw (leb-from span.begin (length text) held.begin.0, leb-from span.end (length text) held.end.0, begin, end) refl

holds_to : (text : Text) (span : ByteSpan) → IsUtf8 text → holds text span ≡ true → Holds text span
unfolding holds
holds_to text span utf8 test =
    let last = and_parts (leb span.begin (length text) && leb span.end (length text) && is_utf8 (take span.begin text)) (is_utf8 (take span.end text)) test in
    let middle = and_parts (leb span.begin (length text) && leb span.end (length text)) (is_utf8 (take span.begin text)) last.0 in
    let first = and_parts (leb span.begin (length text)) (leb span.end (length text)) middle.0 in
    record {
      begin = IsCharBoundary-from_take text span.begin utf8 (leb-to _ _ first.0) (IsUtf8-from_is_utf8 _ middle.1);
      end = IsCharBoundary-from_take text span.end utf8 (leb-to _ _ first.1) (IsUtf8-from_is_utf8 _ last.1);
    }

pub same_test : (text : Text) (span : ByteSpan) (result : Bool) → IsUtf8 text → IsTrue result ↔ Holds text span → result ≡ holds text span
same_test text span true utf8 decides = sym (holds_from text span utf8 (decides.0 refl))
same_test text span false utf8 decides =
    elim (holds text span) as (λ b. holds text span ≡ b → false ≡ b) [
      | true ↦ λ e. decides.1 (holds_to text span utf8 e)
      | false ↦ λ e. refl
    ] refl
