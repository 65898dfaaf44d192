-- Where a character begins among bytes that are looked at in parts.
use Rattle.std.proofs.Common.{◌≡◌, ℕ, ◌+◌, ◌≤◌, ◌<◌, ◌-◌, List, length, take, drop, count_by, ap, sym, subst, ◌∙◌, arith, length-drop, get_or-drop}
use Rattle.std.proofs.lemmas.List.{take_all}
use Rattle.starlark_text.specs.Characters.{starts_character}
use Rattle.starlark_text.proofs.CharacterStarts.{begun_on, begun_rest}
use Rattle.starlark_text.specs.Inner.Begins.{IsBegin}

-- a place found among the bytes from another on, before which the first of the characters begin
pub begin_on : (bytes : List ℕ) (at index left found : ℕ) → at ≤ length bytes → count_by starts_character (take at bytes) + left ≡ index
    → IsBegin (take (length bytes - at) (drop at bytes)) left found → IsBegin bytes index (at + found)
begin_on bytes at index left found within counted begin =
    let rest : take (length bytes - at) (drop at bytes) ≡ drop at bytes = take_all (length bytes - at) (drop at bytes) (omega (arith, length-drop at bytes)) in
    let begin_here : IsBegin (drop at bytes) left found = subst (λ (xs : List ℕ). IsBegin xs left found) rest begin in
    record {
      within = omega (arith, begin_here.within, length-drop at bytes, within);
      before = omega (arith, begun_on bytes at found, begin_here.before, counted);
      here = λ more. ap starts_character (sym (get_or-drop at bytes found 0)) ∙ begin_here.here (omega (arith, length-drop at bytes, more));
    }

-- where too few characters begin after a place, too few begin in all
pub begin_none : (bytes : List ℕ) (at index left : ℕ) → at ≤ length bytes → count_by starts_character (take at bytes) + left ≡ index
    → count_by starts_character (take (length bytes - at) (drop at bytes)) < left → count_by starts_character bytes < index
begin_none bytes at index left within counted few = omega (arith, begun_rest bytes at within, counted, few)
