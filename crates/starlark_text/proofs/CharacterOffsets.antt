-- The byte at which the character of an index begins.
use Rattle.std.proofs.Common.{◌≡◌, ℕ, ◌<◌, Bool, true, false, nat_le, List, [], ◌∷◌, ◌++◌, length, take, drop, slice_get, count_by, MatchOption, IfSome, Option, Some, None, is_some, if◌then◌else◌, zero, suc, refl, ap, sym, subst, ◌∙◌, arith, length-drop}
use Rattle.std.proofs.lemmas.Bool.{le-leb}
use Rattle.std.proofs.lemmas.Bool.Decides.{nat_tests}
use Rattle.std.proofs.lemmas.List.{take-append-drop}
use Rattle.std.proofs.lemmas.Str.{encodes-chars, chars-append, IsUtf8-take}
use Rattle.std.specs.Str.{chars, IsUtf8, IsCharBoundary}
use Rattle.starlark_text.specs.Characters.{starts_character, char_count}
use Rattle.starlark_text.proofs.CountedCharacters.{begun_count}
use Rattle.starlark_text.specs.Inner.Begins.{IsBegin}
use Rattle.starlark_text.specs.Strings.{byte_place, character_place, IsFrom}
use Rattle.starlark_text.proofs.Characters.{place_after, place_bound, chars_from}
use mathlib.Core.Bool.{true≢false}

-- where a character begins the text may be cut
pub begin_boundary : (text : List ℕ) (index at : ℕ) → IsBegin text index at → IsCharBoundary text at
begin_boundary text index at begin = (begin.within, λ more high. let here = begin.here more in grind (arith, nat_tests))

-- the character of an index begins there
pub begin_from : (text : List ℕ) (index at : ℕ) → IsUtf8 text → IsBegin text index at → IsFrom text index (drop at text)
begin_from text index at utf8 begin =
    let boundary = begin_boundary text index at begin in
    let front = IsUtf8-take text at utf8 boundary in
    let whole = take-append-drop at text in
    let count : length (chars (take at text)) ≡ index = sym (begun_count (take at text) front) ∙ begin.before in
    subst (λ n. IsFrom text n (drop at text)) count
    (place_after text (chars (take at text)) (drop at text) utf8 (sym whole ∙ ap (λ t. t ++ drop at text) (sym (encodes-chars (take at text) front))) (ap chars (sym whole) ∙ chars-append (take at text) (drop at text) front))

begin_place : (text : List ℕ) (index at : ℕ) → IsUtf8 text → IsBegin text index at → at ≡ byte_place text index
begin_place text index at utf8 begin =
    omega (arith, ap length (begin_from text index at utf8 begin).bytes, length-drop at text, length-drop (byte_place text index) text, begin.within, place_bound text index utf8)

-- what the search for the byte that begins it answers
pub place_is : (text : List ℕ) (index : ℕ) (found : Option ℕ) → IsUtf8 text → MatchOption found (count_by starts_character text < index) (IsBegin text index) → found ≡ character_place text index
place_is text index None utf8 few =
    let outside : nat_le index (char_count text) ≡ false = let count = begun_count text utf8 in grind (arith, nat_tests) in
    rw outside refl
place_is text index (Some at) utf8 begin =
    rw (le-leb index (char_count text) (begin_from text index at utf8 begin).within) (ap Some (begin_place text index at utf8 begin))

pub place_boundary_is : (text : List ℕ) (index : ℕ) (found : Option ℕ) → MatchOption found (count_by starts_character text < index) (IsBegin text index) → IfSome found (IsCharBoundary text)
place_boundary_is text index None few = tt
place_boundary_is text index (Some at) begin = begin_boundary text index at begin

abbrev value_of : Option ℕ → ℕ
value_of None = 0
value_of (Some n) = n

found_place : (inside : Bool) (at place : ℕ) → Some at ≡ (if inside then Some place else None) → at ≡ place
found_place true at place e = ap value_of e
found_place false at place e = absurd (true≢false (ap is_some e))

first_after : (index : ℕ) (cs : List ℕ) → slice_get (drop index cs) 0 ≡ slice_get cs index
first_after zero cs = refl
first_after (suc index) [] = refl
first_after (suc index) (c ∷ cs) = first_after index cs

-- the character there
pub char_at_place : (text : List ℕ) (index at : ℕ) → IsUtf8 text → Some at ≡ character_place text index → slice_get (chars (drop at text)) 0 ≡ slice_get (chars text) index
char_at_place text index at utf8 found =
    ap (λ n. slice_get (chars (drop n text)) 0) (found_place (nat_le index (char_count text)) at (byte_place text index) found)
    ∙ ap (λ cs. slice_get cs 0) (chars_from text index utf8) ∙ first_after index (chars text)
