-- The brackets never closed, without the outermost of what is open.
use Rattle.std.proofs.Common.{◌≡◌, List, [], ◌∷◌, ◌++◌, Option, Some, ap, drop, sym, ◌∙◌, append-nil, append_assoc}
use Rattle.std.specs.Prelude.{option_to_list}
use Rattle.std.specs.List.{slice_get}
use Rattle.starlark_checks.specs.OpenStack.{never_closed, unclosed}
use Rattle.starlark_checks.specs.declared.check.Finding.{Finding}
use Rattle.starlark_checks.specs.declared.open_stack.Opened.{Opened}

pub outermost : (stack : List Opened) (item : Opened) → never_closed (stack ++ item ∷ []) ≡ option_to_list (unclosed item) ++ never_closed stack
outermost [] item = sym (append-nil (option_to_list (unclosed item)))
outermost (inner ∷ stack) item = ap (λ findings. findings ++ option_to_list (unclosed inner)) (outermost stack item) ∙ append_assoc (option_to_list (unclosed item)) (never_closed stack) (option_to_list (unclosed inner))

-- the findings of a stack, by that of its outermost part
pub popped : (old new : List Opened) (item : Opened) (found : Option Finding) (findings : List Finding) → old ≡ new ++ item ∷ [] → found ≡ unclosed item → never_closed old ≡ findings → option_to_list found ++ never_closed new ≡ findings
popped old new item found findings e is h = ap (λ found. option_to_list found ++ never_closed new) is ∙ sym (outermost new item) ∙ ap never_closed (sym e) ∙ h

pub first_of : (found : Finding) (rest findings : List Finding) → found ∷ rest ≡ findings → Some found ≡ slice_get findings 0
first_of found rest findings e = ap (λ findings. slice_get findings 0) e

pub rest_of : (found : Finding) (rest findings : List Finding) → found ∷ rest ≡ findings → rest ≡ drop 1 findings
rest_of found rest findings e = ap (λ (findings : List Finding). drop 1 findings) e
