-- Where characters begin among the bytes of a text.
use Rattle.std.proofs.Common.{◌≡◌, ℕ, zero, suc, ◌+◌, ◌-◌, ◌<◌, ◌≤◌, true, false, nat_le, List, [], ◌∷◌, ◌++◌, length, take, drop, slice_get, MatchOption, refl, ap, sym, subst, ◌∙◌, Option, Some, None, arith, length-append, length-drop, append_assoc, append-nil}
use Rattle.std.proofs.lemmas.Bool.{and_parts, le-leb}
use Rattle.std.proofs.lemmas.List.{take-append-drop, drop_at, take_at}
use Rattle.std.proofs.lemmas.Str.{encodes-append, encodes-chars, scalars-chars, chars-encodes, chars_past_char, IsUtf8-past_char, IsCharBoundary-at_seam, length-le-encodes}
use Rattle.std.proofs.lemmas.Bool.Decides.{nat_tests}
use Rattle.std.proofs.lemmas.Option.{slice_get_past}
use Rattle.std.proofs.Math.Seq.{take-add}
use Rattle.std.specs.Iterator.{Yields, SkipsThenYields}
use Rattle.std.specs.Str.{chars, IsUtf8, IsCharBoundary}
use Rattle.std.specs.Str.Iter.{chars_rest, chars_steps}
use Rattle.std.specs.declared.str.Chars.{Chars}
use Rattle.starlark_text.specs.Characters.{char_count}
use Rattle.starlark_text.specs.Strings.{byte_place, cut, IsFrom}
use lib.Utf8.{encode, encodes, scalars, scalar}

pub char_count_bound : (text : List ℕ) → IsUtf8 text → char_count text ≤ length text
char_count_bound text utf8 = omega (arith, length-le-encodes (chars text), ap length (encodes-chars text utf8))

scalars-drop : (index : ℕ) (cs : List ℕ) → scalars cs ≡ true → scalars (drop index cs) ≡ true
scalars-drop zero cs all = all
scalars-drop (suc index) [] all = all
scalars-drop (suc index) (c ∷ cs) all = scalars-drop index cs (and_parts (scalar c) (scalars cs) all).1

-- the bytes of the first characters and the bytes of the others
pub cut_bytes : (text : List ℕ) (index : ℕ) → IsUtf8 text → text ≡ encodes (take index (chars text)) ++ encodes (drop index (chars text))
cut_bytes text index utf8 = sym (encodes-chars text utf8) ∙ ap encodes (sym (take-append-drop index (chars text))) ∙ encodes-append (take index (chars text)) (drop index (chars text))

drop_bytes : (text : List ℕ) (index : ℕ) → IsUtf8 text → drop (byte_place text index) text ≡ encodes (drop index (chars text))
unfolding byte_place
drop_bytes text index utf8 = ap (drop (length (encodes (take index (chars text))))) (cut_bytes text index utf8) ∙ drop_at (encodes (take index (chars text))) (encodes (drop index (chars text))) (length (encodes (take index (chars text)))) refl

pub chars_from : (text : List ℕ) (index : ℕ) → IsUtf8 text → chars (drop (byte_place text index) text) ≡ drop index (chars text)
chars_from text index utf8 = ap chars (drop_bytes text index utf8) ∙ chars-encodes (drop index (chars text)) (scalars-drop index (chars text) (scalars-chars text utf8))

pub place_bound : (text : List ℕ) (index : ℕ) → IsUtf8 text → byte_place text index ≤ length text
unfolding byte_place
place_bound text index utf8 = omega (arith, ap length (cut_bytes text index utf8), length-append (encodes (take index (chars text))) (encodes (drop index (chars text))))

-- a text may be cut where a character begins
pub place_boundary : (text : List ℕ) (index : ℕ) → IsUtf8 text → IsCharBoundary text (byte_place text index)
unfolding byte_place
place_boundary text index utf8 =
    IsCharBoundary-at_seam text (encodes (take index (chars text))) (encodes (drop index (chars text))) (cut_bytes text index utf8)
    (drop index (chars text), (scalars-drop index (chars text) (scalars-chars text utf8), refl))

-- where a text begins with the bytes of so many characters
pub place_after : (text front rest : List ℕ) → IsUtf8 text → text ≡ encodes front ++ rest → chars text ≡ front ++ chars rest → IsFrom text (length front) rest
unfolding byte_place
place_after text front rest utf8 bytes characters =
    let front_is : take (length front) (chars text) ≡ front = ap (take (length front)) characters ∙ take_at front (chars rest) (length front) refl in
    let whole : length (chars text) ≡ length front + length (chars rest) = ap length characters ∙ length-append front (chars rest) in
    record {
      within = omega arith;
      bytes = sym (ap (λ cs. drop (length (encodes cs)) text) front_is ∙ ap (drop (length (encodes front))) bytes ∙ drop_at (encodes front) rest (length (encodes front)) refl);
    }

-- what calls of `next` on the characters gave, and what they left
pub record IsWalk (text front rest : List ℕ) : Type 0 where
  pub utf8 : IsUtf8 rest
  pub bytes : text ≡ encodes front ++ rest
  pub characters : chars text ≡ front ++ chars rest

walk_none : (text : List ℕ) → IsUtf8 text → IsWalk text [] text
walk_none text utf8 = record { utf8 = utf8; bytes = refl; characters = refl }

walk_step : (text rest front more : List ℕ) (c : ℕ) → IsUtf8 text → text ≡ encode c ++ rest → IsWalk rest front more → IsWalk text (c ∷ front) more
walk_step text rest front more c utf8 first walk =
    record {
      utf8 = walk.utf8;
      bytes = first ∙ ap (λ t. encode c ++ t) walk.bytes ∙ sym (append_assoc (encode c) (encodes front) more);
      characters = chars_past_char text rest c utf8 first ∙ ap (λ cs. c ∷ cs) walk.characters;
    }

walk : (xs : List ℕ) (s t : Chars) → IsUtf8 (chars_rest s) → Yields chars_steps s xs t → IsWalk (chars_rest s) xs (chars_rest t)
walk [] s t utf8 same = subst (λ (u : Chars). IsWalk (chars_rest s) [] (chars_rest u)) same (walk_none (chars_rest s) utf8)
walk (c ∷ xs) s t utf8 steps =
    let first = steps.1 in
    walk_step (chars_rest s) (chars_rest steps.0) xs (chars_rest t) c utf8 first.0 (walk xs steps.0 t (IsUtf8-past_char (chars_rest s) (chars_rest steps.0) c utf8 first.0) steps.2)

walk_push : (text front middle rest : List ℕ) (c : ℕ) → IsWalk text front middle → middle ≡ encode c ++ rest → IsWalk text (front ++ c ∷ []) rest
walk_push text front middle rest c walk next =
    let one : encodes (c ∷ []) ≡ encode c = append-nil (encode c) in
    record {
      utf8 = IsUtf8-past_char middle rest c walk.utf8 next;
      bytes = walk.bytes ∙ ap (λ t. encodes front ++ t) (next ∙ ap (λ t. t ++ rest) (sym one)) ∙ sym (append_assoc (encodes front) (encodes (c ∷ [])) rest) ∙ ap (λ t. t ++ rest) (sym (encodes-append front (c ∷ [])));
      characters = walk.characters ∙ ap (λ cs. front ++ cs) (chars_past_char middle rest c walk.utf8 next) ∙ sym (append_assoc front (c ∷ []) (chars rest));
    }

-- what `nth` on the characters of a text answers and leaves
abbrev pub AfterNth : List ℕ → ℕ → Option ℕ → List ℕ → Type 0
AfterNth text n r rest = MatchOption r (char_count text ≤ n) (λ c. (front : List ℕ) × (length front ≡ n) × IsWalk text (front ++ c ∷ []) rest)

pub after_nth : (s u : Chars) (n : ℕ) (r : Option ℕ) → IsUtf8 (chars_rest s) → SkipsThenYields chars_steps s n r u → AfterNth (chars_rest s) n r (chars_rest u)
after_nth s u n None utf8 ran =
    let t = ran.1.0 in
    let steps = walk ran.0 s t utf8 ran.1.1 in
    let last = ran.1.2 in
    let ended : length (chars_rest t) ≡ 0 = last.0.0 in
    let within : length ran.0 ≤ n = ran.2 in
    omega (arith, ap length steps.characters, length-append ran.0 (chars (chars_rest t)), char_count_bound (chars_rest t) steps.utf8)
after_nth s u n (Some c) utf8 ran =
    let t = ran.1.0 in
    let steps = walk ran.0 s t utf8 ran.1.1 in
    let last = ran.1.2 in
    (ran.0, ran.2, walk_push (chars_rest s) ran.0 (chars_rest t) (chars_rest u) c steps last.0)

-- the place after the character that `nth` gave
pub from_walk : (text front rest : List ℕ) (c n : ℕ) → IsUtf8 text → length front + 1 ≡ n → IsWalk text (front ++ c ∷ []) rest → IsFrom text n rest
from_walk text front rest c n utf8 count walk =
    let long : length (front ++ c ∷ []) ≡ n = length-append front (c ∷ []) ∙ count in
    subst (λ m. IsFrom text m rest) long (place_after text (front ++ c ∷ []) rest utf8 walk.bytes walk.characters)

-- what is left is as long as the text is past the place
pub from_length : (text rest : List ℕ) (index : ℕ) → IsUtf8 text → IsFrom text index rest → length text - length rest ≡ byte_place text index
from_length text rest index utf8 from = omega (arith, ap length from.bytes, length-drop (byte_place text index) text, place_bound text index utf8)

-- a part of what follows a place is a part of the text
pub place_beyond : (text : List ℕ) (start more : ℕ) → IsUtf8 text → byte_place text (start + more) ≡ byte_place text start + byte_place (drop (byte_place text start) text) more
unfolding byte_place
place_beyond text start more utf8 =
    bytes_of (start + more) text
    ∙ ap (λ cs. length (encodes cs)) (take-add start more (chars text))
    ∙ ap length (encodes-append (take start (chars text)) (take more (drop start (chars text))))
    ∙ length-append (encodes (take start (chars text))) (encodes (take more (drop start (chars text))))
    ∙ ap (λ cs. length (encodes (take start (chars text))) + length (encodes (take more cs))) (sym (chars_from text start utf8))
    ∙ ap (λ n. n + length (encodes (take more (chars (drop (byte_place text start) text))))) (sym (bytes_of start text))
    ∙ ap (λ n. byte_place text start + n) (sym (bytes_of more (drop (byte_place text start) text)))
  where
    bytes_of : (index : ℕ) (text : List ℕ) → byte_place text index ≡ length (encodes (take index (chars text)))
    bytes_of index text = refl

-- `nth` of the character before an index
pub nth_none : (text : List ℕ) (s u : Chars) (n index : ℕ) → chars_rest s ≡ text → IsUtf8 text → n + 1 ≡ index → SkipsThenYields chars_steps s n None u → char_count text < index
nth_none text s u n index same utf8 next ran =
    let few : char_count (chars_rest s) ≤ n = after_nth s u n None (subst IsUtf8 (sym same) utf8) ran in
    omega (arith, ap char_count same)

pub nth_some : (text : List ℕ) (s u : Chars) (c n index : ℕ) → chars_rest s ≡ text → IsUtf8 text → n + 1 ≡ index → SkipsThenYields chars_steps s n (Some c) u → IsFrom text index (chars_rest u)
nth_some text s u c n index same utf8 next ran =
    let after = after_nth s u n (Some c) (subst IsUtf8 (sym same) utf8) ran in
    let count : length after.0 + 1 ≡ index = omega (arith, after.1) in
    from_walk text after.0 (chars_rest u) c index utf8 count (subst (λ (t : List ℕ). IsWalk t (after.0 ++ c ∷ []) (chars_rest u)) same after.2)

pub from_start : (text : List ℕ) (index : ℕ) → index ≡ 0 → IsFrom text index text
unfolding byte_place
from_start text index none = subst (λ i. IsFrom text i text) (sym none) (record { within = omega arith; bytes = refl })

-- the two parts that a cut before an index gives
pub cut_here : (text rest : List ℕ) (index : ℕ) → IsUtf8 text → IsFrom text index rest → Some (take (length text - length rest) text, drop (length text - length rest) text) ≡ cut text index
cut_here text rest index utf8 from =
    let inside = le-leb index (char_count text) from.within in
    rw (from_length text rest index utf8 from, inside) refl

pub cut_none : (text : List ℕ) (index : ℕ) → char_count text < index → None ≡ cut text index
cut_none text index past = let outside : nat_le index (char_count text) ≡ false = grind (arith, nat_tests) in rw outside refl

pub cut_boundary : (text rest : List ℕ) (index : ℕ) → IsUtf8 text → IsFrom text index rest → IsCharBoundary text (length text - length rest)
cut_boundary text rest index utf8 from = subst (IsCharBoundary text) (sym (from_length text rest index utf8 from)) (place_boundary text index utf8)

remainder : (front rest : List ℕ) (c : ℕ) → slice_get ((front ++ c ∷ []) ++ rest) (length front) ≡ Some c
remainder [] rest c = refl
remainder (b ∷ front) rest c = remainder front rest c

-- `nth` of the character at an index
pub nth_is : (text : List ℕ) (s u : Chars) (n : ℕ) (r : Option ℕ) → chars_rest s ≡ text → IsUtf8 text → SkipsThenYields chars_steps s n r u → r ≡ slice_get (chars text) n
nth_is text s u n None same utf8 ran =
    let few : char_count (chars_rest s) ≤ n = after_nth s u n None (subst IsUtf8 (sym same) utf8) ran in
    let past : length (chars text) ≤ n = omega (arith, ap char_count same) in
    sym (slice_get_past (chars text) n past)
nth_is text s u n (Some c) same utf8 ran =
    let after = after_nth s u n (Some c) (subst IsUtf8 (sym same) utf8) ran in
    sym (ap (λ t. slice_get (chars t) n) (sym same) ∙ ap (λ cs. slice_get cs n) after.2.characters ∙ ap (slice_get ((after.0 ++ c ∷ []) ++ chars (chars_rest u))) (sym after.1) ∙ remainder after.0 (chars (chars_rest u)) c)
